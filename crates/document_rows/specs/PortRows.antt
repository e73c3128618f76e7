-- Rows of ports. Own choice.
use Rattle.std.specs.Prelude.{ℕ, List, [], Option, Some, None, Result, Ok, Err}
use Rattle.table_cells.specs.declared.amount.Amount.{Amount}
use Rattle.table_cells.specs.Words.{words_of}
use Rattle.document_rows.specs.declared.fault.Column.TheVariants as column
use Rattle.document_rows.specs.declared.heads.PortHead.{PortHead}
use Rattle.document_rows.specs.declared.disciplines.GateRow.{GateRow}
use Rattle.document_rows.specs.declared.port_rows.PortRow.{PortRow}
use Rattle.document_rows.specs.Reads.{RowRead, and_then, at}
use Rattle.document_rows.specs.Rows.{Row, cell}
use Rattle.document_rows.specs.Cells.{rate_in, time_or_zero, link_time}
use Rattle.document_rows.specs.Disciplines.{DisciplineText, discipline_view, discipline_of, gate_of}

-- what a row says beside the name: the rate in Mbit/s, times in microseconds, exact
pub record PortText : Type 0 where
  pub rate : Amount
  pub latency : Amount
  pub link : Amount
  pub discipline : DisciplineText
  pub gate : Option GateRow

abbrev pub port_view : PortRow → PortText
port_view p = record { rate = p.rate; latency = p.latency; link = p.link; discipline = discipline_view p.discipline; gate = p.gate }

-- the cell of a column that may be missing
abbrev pub cell_or_empty : Row → Option ℕ → List ℕ
cell_or_empty row None = []
cell_or_empty row (Some place) = cell row place

-- or its first fault by columns
unfoldable pub port_row : PortHead → Row → RowRead PortText
port_row head row =
    and_then (at column.Rate (rate_in (cell row head.rate))) (λ rate.
    and_then (at column.Latency (time_or_zero (cell row head.latency))) (λ latency.
    and_then (at column.Link (link_time (cell row head.link))) (λ link.
    and_then (at column.Discipline (discipline_of (words_of (cell row head.discipline)))) (λ discipline.
    and_then (at column.Gate (gate_of (words_of (cell_or_empty row head.gate)))) (λ gate.
    Ok (record { rate = rate; latency = latency; link = link; discipline = discipline; gate = gate }))))))
