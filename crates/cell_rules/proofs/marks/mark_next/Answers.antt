use Rattle.std.proofs.Common.{arith}
use Rattle.cell_rules.proofs.Marking.{next_more}
use Rattle.cell_rules.proofs.marks.mark_next.Goals as goal

pub loop-flow-init : goal.loop-flow-init
loop-flow-init c = record { kept = λ s m. m; next = λ i k h on e. absurd (omega (arith, h)) }

pub loop-flow-preserved : goal.loop-flow-preserved
loop-flow-preserved c = record {
  kept = λ s m. c.mark_behind_on.ensures.kept s (c.loop-flow.invariant.kept s m);
  next = next_more c.args.net.now c.args.server c.loop-flow.flow c.loop-flow.marks.items c.mark_behind_on.new.marks.items
      c.loop-flow.invariant.next c.mark_behind_on.ensures.kept c.mark_behind_on.ensures.behind;
}

pub returns-clause-next : goal.returns-clause-next
returns-clause-next c = λ i k h on e. c.loop-flow.invariant.next i k (omega (arith, h, c.loop-flow-test.false)) on e
