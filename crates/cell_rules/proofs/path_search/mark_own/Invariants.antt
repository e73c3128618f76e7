use Rattle.std.proofs.Common.{take}
use Rattle.cell_rules.specs.Marks.{KeepsMarks, MarksOwn}
use Rattle.cell_rules.proofs.path_search.mark_own.Given as goal

abbrev pub invariant-loop-cell : goal.invariant-loop-cell
invariant-loop-cell l = record {
  kept : KeepsMarks l.fn.marks.items l.marks.items;
  own : MarksOwn (take l.cell-index l.cells) l.marks.items;
}
