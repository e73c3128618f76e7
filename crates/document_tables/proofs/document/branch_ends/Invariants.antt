use Rattle.std.proofs.Common.{◌≡◌, map, take}
use Rattle.document_tables.specs.Documents.{end_view}
use Rattle.document_tables.specs.Grids.{branch_on_grid}
use Rattle.document_tables.specs.Links.{branch_view, branches_of}
use Rattle.document_tables.proofs.document.branch_ends.Given as goal

abbrev pub invariant-loop-place : goal.invariant-loop-place
invariant-loop-place l =
    map end_view l.ends.items ≡ map (branch_on_grid (branches_of l.table)) (map (branch_view l.table.passed.items) (take l.place l.table.branches.items))
