use Rattle.std.proofs.Common.{◌∙◌, arith}
use Rattle.cell_rules.proofs.PathMarks.{passing_more}
use Rattle.cell_rules.proofs.path_search.mark_passing.Goals as goal

pub loop-flow-init : goal.loop-flow-init
loop-flow-init c = record { kept = λ s m. m; passing = λ i h on. absurd (omega (arith, h)) }

pub loop-flow-preserved : goal.loop-flow-preserved
loop-flow-preserved c = record {
  kept = λ s m. c.mark_if.ensures.kept s (c.loop-flow.invariant.kept s m);
  passing = passing_more c.args.net.now c.args.server c.loop-flow.flow c.loop-flow.marks.items c.mark_if.new.marks.items
      c.loop-flow.invariant.passing c.mark_if.ensures.kept (λ on. c.mark_if.ensures.here (c.passes.ensures ∙ on));
}

pub returns-clause-passing : goal.returns-clause-passing
returns-clause-passing c = λ i h on. c.loop-flow.invariant.passing i (omega (arith, h, c.loop-flow-test.false)) on
