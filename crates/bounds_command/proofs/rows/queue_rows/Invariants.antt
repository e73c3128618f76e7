use Rattle.std.proofs.Common.{◌≡◌, map}
use Rattle.std.specs.List.{flat_map, range_with_len}
use Rattle.document_tables.specs.Documents.{document_view}
use Rattle.bounds_command.specs.Reports.{queue_view, queues_at}
use Rattle.bounds_command.proofs.rows.queue_rows.Given as goal

abbrev pub invariant-loop-number : goal.invariant-loop-number
invariant-loop-number l =
    map queue_view l.rows.items
    ≡ flat_map (queues_at (document_view l.document) l.document.network l.table) (range_with_len 0 l.number)
