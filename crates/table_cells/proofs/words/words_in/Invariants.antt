use Rattle.std.proofs.Common.{map, ◌≤◌}
use Rattle.table_cells.proofs.Cut.{IsCut}
use Rattle.table_cells.proofs.words.words_in.Given as goal

abbrev pub invariant-loop-at : goal.invariant-loop-at
invariant-loop-at l = record {
  near : l.start ≤ l.at;
  cut : IsCut l.cell l.start l.at (map (λ word. word.now) l.words.items);
}
