-- How the number of a cell is written. Own choice.
use Rattle.std.specs.Prelude.{ℕ, List, [], Option, Some, None}
use Rattle.rational.specs.Extended.{Ext}
use Rattle.input_texts.specs.plain_text.Numbers.{number_text}
use Rattle.net_cells.specs.Meanings.{Meaning, curve, number, CellTable}
use Rattle.net_cells.specs.declared.cell.Kind.{Kind}
use Rattle.net_cells.specs.Cells.{cell_of}

-- the number, where it is one
abbrev pub number_in : Meaning → Option Ext
number_in (curve f) = None
number_in (number x) = Some x

-- nothing where a cell has no number
abbrev pub shown_value : Option Meaning → List ℕ
shown_value None = []
shown_value (Some (curve f)) = []
shown_value (Some (number x)) = number_text x

-- what a table has at a cell
abbrev pub shown : CellTable → Kind → ℕ → ℕ → List ℕ
shown at kind a b = shown_value (at (cell_of kind a b))
