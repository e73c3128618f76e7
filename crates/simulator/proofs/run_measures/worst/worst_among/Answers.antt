use Rattle.std.specs.Prelude.{List, length}
use Rattle.std.proofs.Common.{sym, subst, ◌∙◌}
use Rattle.std.proofs.Math.Seq.{drop-length}
use Rattle.run_laws.specs.declared.steps.Step.{Step}
use Rattle.net_model.specs.NetRoutes.{routes_of}
use Rattle.simulator.specs.run_measures.Tallies.{IsTold}
use Rattle.simulator.proofs.run_measures.Walking.{may_tell, told_before, told_all}
use Rattle.simulator.proofs.run_measures.worst.worst_among.Goals as goal

pub loop-place-init : goal.loop-place-init
loop-place-init c = (
  subst (λ (xs : List Step). IsTold (routes_of c.args.net.now) c.args.end xs (length c.args.net.now.flows) c.in_ok-tally.tally)
      (sym (drop-length c.args.steps.now)) c.in_ok-tally.ensures.told,
  c.in_ok-tally.ensures.flows,
)

pub tell-requires-clause-may : goal.tell-requires-clause-may
tell-requires-clause-may c =
    may_tell (routes_of c.args.net.now) c.args.end c.args.steps.now (length c.args.net.now.flows) c.loop-place.place c.loop-place.tally c.index-steps-place.result
    c.requires.numbered c.requires.fits c.loop-place-test.true c.loop-place.auto.place c.index-steps-place.is c.loop-place.invariant.1 c.loop-place.invariant.0

pub loop-place-preserved : goal.loop-place-preserved
loop-place-preserved c = (
  told_before (routes_of c.args.net.now) c.args.end c.args.steps.now (length c.args.net.now.flows) c.loop-place.place c.loop-place.tally c.tell.new.self
      c.index-steps-place.result c.loop-place-test.true c.loop-place.auto.place c.index-steps-place.is c.loop-place.invariant.0 c.tell.ensures.told,
  c.tell.ensures.flows ∙ c.loop-place.invariant.1,
)

pub returns : goal.returns
returns c =
    told_all (routes_of c.args.net.now) c.args.end c.args.steps.now (length c.args.net.now.flows) c.loop-place.place c.loop-place.tally
    c.loop-place-test.false c.loop-place.invariant.0
