-- What a table has at a cell: a curve, or a number, and of which sort. Own choice.
use Rattle.std.specs.Prelude.{◌≡◌, Some}
use Rattle.rational.specs.Extended.{Ext}
use Rattle.upp_curve.specs.Curve.{SpecCurve}
use Rattle.net_cells.specs.declared.cell.Cell.{Cell}
use Rattle.net_cells.specs.Meanings.{curve, number, CellTable}

-- a curve of which P holds
pub record HasCurve (at : CellTable) (c : Cell) (P : SpecCurve → Type 0) : Type 0 where
  pub value : SpecCurve
  pub is : at c ≡ Some (curve value)
  pub holds : P value

-- a number of which P holds
pub record HasNumber (at : CellTable) (c : Cell) (P : Ext → Type 0) : Type 0 where
  pub value : Ext
  pub is : at c ≡ Some (number value)
  pub holds : P value
