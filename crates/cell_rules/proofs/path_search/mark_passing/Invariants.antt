use Rattle.cell_rules.specs.Marks.{KeepsMarks, MarksPassing}
use Rattle.cell_rules.proofs.path_search.mark_passing.Given as goal

abbrev pub invariant-loop-flow : goal.invariant-loop-flow
invariant-loop-flow l = record {
  kept : KeepsMarks l.fn.marks.items l.marks.items;
  passing : MarksPassing l.net l.server l.marks.items l.flow;
}
