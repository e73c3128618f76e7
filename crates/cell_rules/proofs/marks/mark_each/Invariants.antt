use Rattle.std.proofs.Common.{take}
use Rattle.cell_rules.specs.Marks.{KeepsMarks, MarksEach}
use Rattle.cell_rules.proofs.marks.mark_each.Given as goal

abbrev pub invariant-loop-server : goal.invariant-loop-server
invariant-loop-server l = record {
  kept : KeepsMarks l.fn.marks.items l.marks.items;
  each : MarksEach (take l.server-index l.servers) l.marks.items;
}
