-- The table of ports. Own choice.
use Rattle.std.specs.Prelude.{ℕ, List, [], ◌∷◌, ◌++◌, length, map, nat_le, Ok, Err, if◌then◌else◌}
use Rattle.std.specs.List.{list_any}
use Rattle.std.specs.Str.{bytes_eq}
use Rattle.csv_rows.specs.Rows.{Row}
use Rattle.document_rows.specs.declared.fault.Column.TheVariants as column
use Rattle.document_rows.specs.declared.fault.Wrong.TheVariants.{TooManyRows, NameTwice}
use Rattle.document_rows.specs.declared.heads.PortHead.{PortHead}
use Rattle.document_rows.specs.Reads.{RowRead, and_then}
use Rattle.document_rows.specs.Heads.{port_head, row_name}
use Rattle.document_rows.specs.PortRows.{PortText, port_view, port_row}
use Rattle.document_tables.specs.declared.ports.PortTable.{PortTable}
use Rattle.document_tables.specs.Tables.{LineRow, TableRead, table_of}

-- ports by their numbers: the names, and what the rows say
pub record Ports : Type 0 where
  pub names : List (List ℕ)
  pub ports : List PortText

abbrev pub ports_view : PortTable → Ports
ports_view t = record { names = t.names; ports = map port_view t.ports.items }

abbrev pub most_ports : ℕ
most_ports = 4096

-- a row behind these: no more than there may be, with a name of its own
unfoldable pub with_port : PortHead → Ports → Row → RowRead Ports
with_port head before row =
    if nat_le most_ports (length before.ports) then Err (record { column = column.Name; wrong = TooManyRows })
    else and_then (row_name head.width head.name row) (λ name.
    if list_any (bytes_eq name) before.names then Err (record { column = column.Name; wrong = NameTwice })
    else and_then (port_row head row) (λ port.
    Ok (record { names = before.names ++ name ∷ []; ports = before.ports ++ port ∷ [] })))

abbrev pub no_ports : Ports
no_ports = record { names = []; ports = [] }

abbrev pub ports_of : List LineRow → TableRead Ports
ports_of = table_of port_head with_port no_ports
