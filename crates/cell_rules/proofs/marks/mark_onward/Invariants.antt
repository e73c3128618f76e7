use Rattle.std.proofs.Common.{take}
use Rattle.cell_rules.specs.Marks.{KeepsMarks, MarksOnward}
use Rattle.cell_rules.proofs.marks.mark_onward.Given as goal

abbrev pub invariant-loop-cell : goal.invariant-loop-cell
invariant-loop-cell l = record {
  kept : KeepsMarks l.fn.marks.items l.marks.items;
  onward : MarksOnward l.net (take l.cell-index l.cells) l.flags l.marks.items;
}
