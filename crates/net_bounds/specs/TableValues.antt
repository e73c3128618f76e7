-- What a table of a network's cells has in a cell: a curve whose function is of a sort, or a number. (Own choice.)
use Rattle.std.specs.Prelude.{◌≡◌, Some}
use Rattle.rational.specs.Rational.{ℚ}
use Rattle.rational.specs.Extended.{Ext}
use Rattle.upp_curve.specs.Curve.{SpecCurve, value_at}
use Rattle.net_cells.specs.declared.cell.Cell.{Cell}
use Rattle.net_cells.specs.Meanings.{curve, CellTable}
pub use Rattle.net_cells.specs.TableValues.{HasNumber}

-- it has a curve there, and of that curve P holds
pub record HasFunction (at : CellTable) (c : Cell) (P : (ℚ → Ext) → Type 0) : Type 0 where
  pub value : SpecCurve
  pub is : at c ≡ Some (curve value)
  pub holds : P (value_at value)
