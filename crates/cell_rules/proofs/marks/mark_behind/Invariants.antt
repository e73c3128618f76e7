use Rattle.cell_rules.specs.Marks.{KeepsMarks, MarksBehind}
use Rattle.cell_rules.proofs.marks.mark_behind.Given as goal

abbrev pub invariant-loop-hop : goal.invariant-loop-hop
invariant-loop-hop l = record {
  kept : KeepsMarks l.fn.marks.items l.marks.items;
  behind : MarksBehind l.path l.server l.marks.items l.hop;
}
