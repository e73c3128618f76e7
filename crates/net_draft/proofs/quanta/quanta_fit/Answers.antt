use Rattle.std.proofs.Common.{map, sym, subst, ◌∙◌}
use Rattle.net_model.specs.declared.fault.NetKind.TheVariants.{M12}
use Rattle.net_draft.specs.Faults.{IsFault}
use Rattle.net_draft.specs.Drafts.{quanta_from}
use Rattle.net_draft.specs.Views.{flow_text}
use Rattle.net_draft.proofs.Fitting.{short_here, long_here, all_long}
use Rattle.net_draft.proofs.quanta.quanta_fit.Goals as goal

pub returns-then-some_longer : goal.returns-then-some_longer
returns-then-some_longer c =
    short_here (map flow_text c.args.flows.now) c.args.place.now c.args.server c.loop-queue.queue c.args.quanta.now c.fault_at.result
    (quanta_from (map flow_text c.args.flows.now) c.args.place.now c.args.server 0 c.args.quanta.now) c.loop-queue-test.true (sym c.some_longer.ensures ∙ c.if-some_longer.true)
    (subst (λ p. IsFault M12 p c.fault_at.result) (c.as_str.ensures.value ∙ c.in_ok-here.ensures) c.fault_at.ensures) c.loop-queue.invariant

pub loop-queue-preserved : goal.loop-queue-preserved
loop-queue-preserved c =
    long_here (map flow_text c.args.flows.now) c.args.place.now c.args.server c.loop-queue.queue c.args.quanta.now
    (quanta_from (map flow_text c.args.flows.now) c.args.place.now c.args.server 0 c.args.quanta.now) c.loop-queue-test.true (sym c.some_longer.ensures ∙ c.if-some_longer.false) c.loop-queue.invariant

pub returns : goal.returns
returns c =
    all_long (map flow_text c.args.flows.now) c.args.place.now c.args.server c.loop-queue.queue c.args.quanta.now
    (quanta_from (map flow_text c.args.flows.now) c.args.place.now c.args.server 0 c.args.quanta.now) c.loop-queue-test.false c.loop-queue.invariant
