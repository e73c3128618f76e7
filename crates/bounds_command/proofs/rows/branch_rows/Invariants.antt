use Rattle.std.proofs.Common.{◌≡◌, map, take}
use Rattle.document_tables.specs.Documents.{document_view, end_view}
use Rattle.bounds_command.specs.Reports.{branch_view, branch_text}
use Rattle.bounds_command.proofs.rows.branch_rows.Given as goal

abbrev pub invariant-loop-end : goal.invariant-loop-end
invariant-loop-end l =
    map branch_view l.rows.items
    ≡ map (branch_text (document_view l.document) l.document.network l.table)
    (map end_view (take l.end-index l.document.branches.items))
