use Rattle.std.proofs.Common.{◌≡◌, map, drop}
use Rattle.document_tables.specs.Tables.{after_rows, row_view}
use Rattle.document_tables.specs.Ports.{ports_view, no_ports, with_port}
use Rattle.document_tables.proofs.ports.ports_under.Given as goal

abbrev pub invariant-loop-row : goal.invariant-loop-row
invariant-loop-row l =
    after_rows (with_port l.head) no_ports (map row_view l.rows)
    ≡ after_rows (with_port l.head) (ports_view l.table) (drop l.row-index (map row_view l.rows))
