use Rattle.std.proofs.Common.{◌≡◌, map, length}
use Rattle.csv_rows.specs.Coming.{Stands, rows_of}
use Rattle.document_tables.specs.Tables.{after_rows, line_row}
use Rattle.document_tables.specs.LinkTrees.{AreTrees}
use Rattle.document_tables.specs.Links.{links_view, no_links, with_row}
use Rattle.document_tables.specs.Ports.{ports_view}
use Rattle.document_tables.proofs.links.links_under.Given as goal

abbrev pub invariant-loop-row : goal.invariant-loop-row
invariant-loop-row l = record {
  stands : Stands l.rows;
  value : after_rows (with_row (ports_view l.ports) l.overhead l.head) no_links (map line_row (rows_of l.fn.rows))
      ≡ after_rows (with_row (ports_view l.ports) l.overhead l.head) (links_view l.table) (map line_row (rows_of l.rows));
  kept : AreTrees l.table;
}

abbrev pub decreases-loop-row : goal.decreases-loop-row
decreases-loop-row l = length (rows_of l.rows)
