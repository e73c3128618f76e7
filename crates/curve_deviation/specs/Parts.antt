-- How a curve goes on from a time of a window, which may end before all its pieces have started. Own choice.
use Rattle.std.specs.Prelude.{◌≡◌}
use Rattle.rational.specs.Rational.{ℚ, ◌+ℚ◌, ◌≤ℚ◌, ◌<ℚ◌}
use Rattle.rational.specs.Grid.{Whole}
use Rattle.rational.specs.Extended.{Ext}
use Rattle.upp_curve.specs.affine_segment.Values.{line_value}
use Rattle.upp_curve.specs.declared.curve.Tail.{Tail}
use Rattle.upp_curve.specs.declared.curve.Tail.TheVariants.{Periodic, Affine, Infinite}
use Rattle.upp_curve.specs.Curve.{SpecCurve, value_at}
use Rattle.upp_curve.specs.Curves.{IsCurve}
use Rattle.min_plus.specs.Functions.{IsFinite}
use Rattle.upp_limits.specs.Limits.{Sizes, curve_numbers}
use Rattle.upp_limits.specs.Sized.{Stands}
use Rattle.upp_normal.specs.Operand.{AreLimited, OperandLineAt}
use Rattle.upp_normal.specs.Ahead.{GridValue, IsOverBy}
use Rattle.curve_deviation.specs.declared.parts.Part.{Part}

-- a finite curve whose numbers up to `end` have the sizes z
pub record IsFiniteInSizes (z : Sizes) (end : ℚ) (c : SpecCurve) : Type 0 where
  pub curve : IsCurve c
  pub finite : IsFinite (value_at c)
  pub limited : AreLimited z end
  pub stands : Stands z (curve_numbers end c)

-- f has the value at t, and then goes on with the line up to a time that is not past the end
pub record GoesTo (f : ℚ → Ext) (t end : ℚ) (p : Part) : Type 0 where
  pub at : p.at ≡ f t
  pub line : (u : ℚ) → t <ℚ u → u <ℚ p.until → f u ≡ line_value p.line u
  pub past : t <ℚ p.until
  pub high : p.until ≤ℚ end

pub record PartStands (z : Sizes) (p : Part) : Type 0 where
  pub at : GridValue z p.at
  pub line : OperandLineAt z p.line
  pub until : Whole z.dt p.until

-- up to `end` the pieces that are kept are the curve
abbrev pub IsEarlyBy : ℚ → Tail → Type 0
IsEarlyBy end (Periodic rank period rise) = end ≤ℚ rank +ℚ period
IsEarlyBy end (Affine rank) = Unit {0}
IsEarlyBy end (Infinite rank) = Unit {0}

-- up to `kept`, which is `end` or a time before it at which the first period is over
pub record IsKeptUntil (c : SpecCurve) (end kept : ℚ) : Type 0 where
  pub early : IsEarlyBy kept c.tail
  pub high : kept ≤ℚ end
  pub over : kept <ℚ end → IsOverBy end c.tail
  pub grid : (z : Sizes) → IsFiniteInSizes z end c → Whole z.dt kept
