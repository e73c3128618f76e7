-- The ranges of what rows say.
use Rattle.std.specs.Prelude.{◌≡◌, true, ℕ, ◌≤◌, All, length, Option, Some, None}
use Rattle.table_cells.specs.declared.amount.Amount.{Amount}
use Rattle.table_cells.specs.Amounts.{IsAmount, is_at_most, is_whole, is_within, reaches_one}
use Rattle.document_rows.specs.declared.disciplines.GateRow.{GateRow}
use Rattle.document_rows.specs.Cells.{longest_time}
use Rattle.document_rows.specs.Disciplines.{DisciplineText, Fifo, Priority, Drr, most_queues}
use Rattle.document_rows.specs.PortRows.{PortText}
use Rattle.document_rows.specs.LinkRows.{LinkText}
use Rattle.document_tables.specs.declared.links.LinkKeys.{LinkKeys}

-- a number that is at most so many, and of which so many are one at least
pub record IsWithin (times most : ℕ) (a : Amount) : Type 0 where
  pub amount : IsAmount a
  pub not_under : reaches_one a times ≡ true
  pub not_over : is_at_most a most ≡ true

-- a time in microseconds
pub record IsTime (a : Amount) : Type 0 where
  pub amount : IsAmount a
  pub most : is_at_most a longest_time ≡ true

abbrev pub IsTimeOrNone : Option Amount → Type 0
IsTimeOrNone None = Unit {0}
IsTimeOrNone (Some a) = IsTime a

pub record IsGate (gate : GateRow) : Type 0 where
  pub cycle : IsTime gate.cycle
  pub slot : IsTime gate.slot
  pub some : reaches_one gate.slot 1000000 ≡ true
  pub within : is_within gate.slot gate.cycle ≡ true

abbrev pub IsGateOrNone : Option GateRow → Type 0
IsGateOrNone None = Unit {0}
IsGateOrNone (Some gate) = IsGate gate

abbrev pub IsQuantum : ℕ → Type 0
IsQuantum q = (8 ≤ q) × (q ≤ 16777216)

abbrev pub IsDiscipline : DisciplineText → Type 0
IsDiscipline Fifo = Unit {0}
IsDiscipline (Priority queues) = (1 ≤ queues) × (queues ≤ most_queues)
IsDiscipline (Drr quanta) = (1 ≤ length quanta) × (length quanta ≤ most_queues) × All IsQuantum quanta

pub record IsPortText (port : PortText) : Type 0 where
  pub rate : IsWithin 1000000 1000000 port.rate
  pub latency : IsTime port.latency
  pub link : IsTime port.link
  pub whole_link : is_whole 1000000 port.link ≡ true
  pub discipline : IsDiscipline port.discipline
  pub gate : IsGateOrNone port.gate

pub record IsLinkText (row : LinkText) : Type 0 where
  pub gap : IsWithin 1000000000 1000000 row.gap
  pub some_frame : 1 ≤ row.largest_frame
  pub frame : row.largest_frame ≤ 1048576
  pub jitter : IsTime row.jitter
  pub priority : row.priority ≤ 7
  pub some_port : 1 ≤ length row.path
  pub path : length row.path ≤ 64
  pub deadline : IsTimeOrNone row.deadline

-- what the rows of a link agree in
pub record AreLinkKeys (keys : LinkKeys) : Type 0 where
  pub gap : IsWithin 1000000000 1000000 keys.gap
  pub some_frame : 1 ≤ keys.largest_frame
  pub frame : keys.largest_frame ≤ 1048576
  pub jitter : IsTime keys.jitter
  pub priority : keys.priority ≤ 7
