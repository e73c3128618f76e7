use Rattle.cell_rules.specs.Marks.{KeepsMarks, MarksNext}
use Rattle.cell_rules.proofs.marks.mark_next.Given as goal

abbrev pub invariant-loop-flow : goal.invariant-loop-flow
invariant-loop-flow l = record {
  kept : KeepsMarks l.fn.marks.items l.marks.items;
  next : MarksNext l.net l.server l.marks.items l.flow;
}
