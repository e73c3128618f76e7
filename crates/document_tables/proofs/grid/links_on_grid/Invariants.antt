use Rattle.std.specs.Prelude.{slice_get}
use Rattle.std.proofs.Common.{◌≡◌, ◌≤◌, ℕ, List, map, length, drop, ◌++◌}
use Rattle.document_tables.specs.Grids.{grid_link, links_from}
use Rattle.document_tables.specs.Links.{BranchText}
use Rattle.document_tables.specs.LinkTrees.{AreTreesOf}
use Rattle.document_tables.specs.Ports.{ports_view}
use Rattle.document_tables.proofs.grid.links_on_grid.Given as goal

abbrev pub invariant-loop-number : goal.invariant-loop-number
invariant-loop-number l = record {
  count : length l.trees.items ≡ length l.initial.trees.items;
  left : (k : ℕ) → l.number ≤ k → slice_get l.trees.items k ≡ slice_get l.initial.trees.items k;
  made : (branches : List BranchText) → AreTreesOf branches l.initial.trees.items
      → map grid_link l.links.items ++ links_from (ports_view l.ports).ports l.overhead branches l.number (drop l.number l.keys)
      ≡ links_from (ports_view l.ports).ports l.overhead branches 0 l.keys;
}
