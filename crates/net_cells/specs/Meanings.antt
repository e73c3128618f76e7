-- What the value of a cell is: a curve, or a number that may be infinite. Own choice.
use Rattle.std.specs.Prelude.{Option}
use Rattle.rational.specs.Extended.{Ext}
use Rattle.upp_curve.specs.Curve.{SpecCurve}
use Rattle.net_cells.specs.declared.cell.Cell.{Cell}

pub data Meaning : Type 0 where
  curve : SpecCurve → Meaning
  number : Ext → Meaning

-- which value a cell has in a table, if any
abbrev pub CellTable : Type 0
CellTable = Cell → Option Meaning

-- it is a curve of some sort, or a number of some sort
abbrev pub IsCurveIn : (SpecCurve → Type 0) → Meaning → Type 0
IsCurveIn P (curve f) = P f
IsCurveIn P (number x) = ⊥

abbrev pub IsNumberIn : (Ext → Type 0) → Meaning → Type 0
IsNumberIn P (curve f) = ⊥
IsNumberIn P (number x) = P x
