-- A function that rises on a stretch by a line. Own choice.
use Rattle.std.specs.Prelude.{◌≡◌, pos}
use Rattle.rational.specs.Rational.{ℚ, ◌≤ℚ◌, ◌<ℚ◌, int}
use Rattle.rational.specs.Extended.{Ext, ◌≤ₑ◌}
use Rattle.rational.specs.declared.Extended.TheVariants.{Fin}
use Rattle.upp_curve.specs.declared.affine_segment.line.Line.{Line}
use Rattle.upp_curve.specs.affine_segment.Values.{line_at}
use Rattle.upp_limits.specs.Limits.{Sizes}
use Rattle.upp_normal.specs.Operand.{OperandLine}
use Rattle.curve_deviation.specs.declared.cells.Cell.{Cell}
use Rattle.curve_deviation.specs.declared.walks.Rise.{Rise}
use Rattle.curve_deviation.specs.Cells.{IsTimeTo}

-- between t and e f has the values of the line; at t it is no higher, at e no lower
pub record RisesOn (f : ℚ → Ext) (l : Line) (t e : ℚ) : Type 0 where
  pub some : t <ℚ e
  pub inside : (u : ℚ) → t <ℚ u → u <ℚ e → f u ≡ Fin (line_at l u)
  pub start : f t ≤ₑ Fin (line_at l t)
  pub end : Fin (line_at l e) ≤ₑ f e
  pub slope : int (pos 0) ≤ℚ l.slope

-- the cell of f from t on, and of g from x on, up to `until` and to `end`
pub record IsCellOf (f g : ℚ → Ext) (t x until end : ℚ) (c : Cell) : Type 0 where
  pub start : c.start ≡ t
  pub from : c.from ≡ x
  pub first : RisesOn f c.first c.start c.end
  pub second : RisesOn g c.second c.from c.until
  pub early : c.end ≤ℚ until
  pub high : c.until ≤ℚ end

-- f from t on, not past `until`, by a line of which the values at both ends are kept
pub record IsRiseFrom (f : ℚ → Ext) (t until : ℚ) (r : Rise) : Type 0 where
  pub rises : RisesOn f r.line t r.until
  pub early : r.until ≤ℚ until
  pub low : r.low ≡ line_at r.line t
  pub high : r.high ≡ line_at r.line r.until

-- the same of an operand of a window that ends at `last`
pub record RiseSizes (z : Sizes) (last : ℚ) (r : Rise) : Type 0 where
  pub line : OperandLine z r.line
  pub until : IsTimeTo z last r.until
