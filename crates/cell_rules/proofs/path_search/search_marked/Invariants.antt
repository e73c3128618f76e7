use Rattle.std.proofs.Common.{◌≡◌, ◌++◌, List, length, take}
use Rattle.net_cells.specs.declared.cell.Cell.{Cell}
use Rattle.cell_rules.specs.Finding.{IsBareAtFirst}
use Rattle.cell_rules.specs.Marks.{MarksOwn, StandBehind, IsSearched}
use Rattle.cell_rules.proofs.path_search.search_marked.Given as goal

abbrev pub invariant-loop-place : goal.invariant-loop-place
invariant-loop-place l = record {
  room : length l.flags.items ≡ 36352;
  bare : IsBareAtFirst l.flags.items l.touched.items;
  own : MarksOwn l.touched.items l.marks;
  searched : (front : List Cell) → StandBehind l.net front l.cells
      → IsSearched l.old l.net front l.fn.flags.items l.fn.touched.items
      → IsSearched l.old l.net (front ++ take l.place l.cells) l.flags.items l.touched.items;
}
