-- A scan of the pairs of two curves' pieces up to the end of a window: its sizes, and which times it looks at. Own
-- choice.
use Rattle.std.specs.Prelude.{◌≡◌, Bool, true, false, Option, Some, None}
use Rattle.rational.specs.Rational.{ℚ, ◌≤ℚ◌, ◌<ℚ◌}
use Rattle.upp_limits.specs.declared.op_kind.OpKind.TheVariants.{Convolve}
use Rattle.upp_curve.specs.Curve.{SpecCurve}
use Rattle.upp_limits.specs.Limits.{Sizes, sizes_of}
use Rattle.upp_limits.specs.Gauges.{numbers_over}
use Rattle.upp_normal.specs.Ahead.{HasWindow, IsBeforeNext, AtNext}
use Rattle.curve_conv.specs.Stretches.{IsSpan}

-- the sizes of both curves' numbers up to the end
abbrev pub sizes_in : SpecCurve → SpecCurve → ℚ → Sizes
sizes_in f g end = sizes_of end (numbers_over Convolve f g end)

-- they hold them, and both curves have shown a first period by the end
pub record IsScan (f g : SpecCurve) (end : ℚ) : Type 0 where
  pub first : HasWindow (sizes_in f g end) end f
  pub second : HasWindow (sizes_in f g end) end g

-- a time that may be missing, where it is before the limit
abbrev pub IsEarly : Option ℚ → ℚ → Option ℚ → Type 0
IsEarly at limit None = AtNext (λ x. limit ≤ℚ x) at
IsEarly at limit (Some x) = (at ≡ Some x) × (x <ℚ limit)

-- the first of two times that may be missing, where there is one
abbrev pub or_else : Option ℚ → Option ℚ → Option ℚ
or_else None other = other
or_else (Some x) other = Some x

-- the first side in a span and before another time, the second from `low` on
pub record InPart (from : ℚ) (at until : Option ℚ) (low s u : ℚ) : Type 0 where
  pub span : IsSpan from at s
  pub before : IsBeforeNext s until
  pub second : low ≤ℚ u

-- whether a time is there, and the time or another
abbrev pub is_time : Option ℚ → Bool
is_time None = false
is_time (Some x) = true

abbrev pub time_or : Option ℚ → ℚ → ℚ
time_or None y = y
time_or (Some x) y = x

-- up to `room`, and before another time that may be missing
pub record IsLimit (room : ℚ) (until : Option ℚ) (limit : ℚ) : Type 0 where
  pub most : limit ≤ℚ room
  pub before : (s : ℚ) → s <ℚ limit → IsBeforeNext s until
  pub least : (s : ℚ) → s <ℚ room → IsBeforeNext s until → s <ℚ limit
