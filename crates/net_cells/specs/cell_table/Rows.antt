-- Where the value of a cell is held in a table by rows. Own choice: a row for each kind and first number.
use Rattle.std.specs.Prelude.{ℕ, ◌+◌, ◌*◌, List, [], map, Option, None, get_or}
use Rattle.std.specs.Option.{option_map}
use Rattle.std.specs.declared.vec.Vec.{Vec}
use Rattle.net_cells.specs.declared.cell.Cell.{Cell}
use Rattle.net_cells.specs.declared.cell.Kind.{Kind}
use Rattle.net_cells.specs.declared.cell.Kind.TheVariants.{In, Cross, Total, Higher, QueueService, Theta, Residual, QueueDelay, QueueBacklog, HopDelay, ShiftOut, DeconvOut, Out, PathService, Tfa, Sfa, Bound}
use Rattle.net_cells.specs.Meanings.{Meaning, CellTable}

-- the number of a kind
abbrev pub kind_number : Kind → ℕ
kind_number In = 0
kind_number Cross = 1
kind_number Total = 2
kind_number Higher = 3
kind_number QueueService = 4
kind_number Theta = 5
kind_number Residual = 6
kind_number QueueDelay = 7
kind_number QueueBacklog = 8
kind_number HopDelay = 9
kind_number ShiftOut = 10
kind_number DeconvOut = 11
kind_number Out = 12
kind_number PathService = 13
kind_number Tfa = 14
kind_number Sfa = 15
kind_number Bound = 16

-- the row of a cell
abbrev pub row_of : Cell → ℕ
row_of c = c.a * 17 + kind_number c.kind

-- what rows have at a place of one: nothing past their ends
abbrev pub entry : {V A : Type 0} → List (Vec (Option V) A) → ℕ → ℕ → Option V
entry rows i k = get_or (get_or (map (λ row. row.items) rows) i []) k None

-- what they have at each cell
abbrev pub held : {V A : Type 0} → (V → Meaning) → List (Vec (Option V) A) → CellTable
held meaning rows c = option_map meaning (entry rows (row_of c) c.b)
