-- Some curve, some number, and how far one curve is from another, by the cells of a table. Own choice.
use Rattle.upp_curve.specs.Curve.{value_at}
use Rattle.min_plus.specs.Deviations.{IsHorizontalDeviation}
use Rattle.net_cells.specs.declared.cell.Cell.{Cell}
use Rattle.net_cells.specs.Meanings.{CellTable}
pub use Rattle.net_cells.specs.TableValues.{HasCurve, HasNumber}

-- some curve, some number
abbrev pub IsCurveAt : CellTable → Cell → Type 0
IsCurveAt at c = HasCurve at c (λ f. Unit {0})

abbrev pub IsNumberAt : CellTable → Cell → Type 0
IsNumberAt at c = HasNumber at c (λ x. Unit {0})

-- the number of theta is how far the curve of cross is from that of service
abbrev pub Deviate : CellTable → (cross service theta : Cell) → Type 0
Deviate at cross service theta =
    HasCurve at cross (λ f. HasCurve at service (λ g. HasNumber at theta (IsHorizontalDeviation (value_at f) (value_at g))))
