-- Where the numbers of a call stand and how large they are, by its five sizes: times on the grid of dt; values on the
-- grid of dv within the largest; slopes on the grid of ds, twice their size within the steepness. Own choice.
use Rattle.std.specs.Prelude.{ℕ, ◌*◌, ◌<◌, ◌≤◌, ◌^◌, pos, Option, Some, None}
use Rattle.std.specs.List.{AllByRecursion}
use Rattle.rational.specs.Rational.{ℚ, ◌*ℚ◌, ◌≤ℚ◌, int}
use Rattle.rational.specs.Extended.{Ext}
use Rattle.rational.specs.declared.Extended.TheVariants.{Fin, Inf}
use Rattle.rational.specs.Grid.{Whole, Within}
use Rattle.upp_curve.specs.declared.affine_segment.line.Line.{Line}
use Rattle.upp_curve.specs.declared.curve.Tail.{Tail}
use Rattle.upp_curve.specs.declared.curve.Tail.TheVariants.{Periodic, Affine, Infinite}
use Rattle.upp_curve.specs.Curve.{SpecCurve}
use Rattle.upp_curve.specs.affine_segment.Values.{line_value}
use Rattle.upp_curve.specs.Steady.{rank_of}
use Rattle.upp_limits.specs.Spans.{Span, spans}
use Rattle.upp_limits.specs.Limits.{Sizes, Numbers, limit_before, gauge_of}

-- a number that counts as a value
pub record IsValue (z : Sizes) (v : ℚ) : Type 0 where
  pub whole : Whole z.dv v
  pub within : Within (int (pos z.largest)) v

-- a number that counts as a slope
pub record IsSlope (z : Sizes) (s : ℚ) : Type 0 where
  pub whole : Whole z.ds s
  pub within : Within (int (pos z.steepness)) (int (pos 2) *ℚ s)

-- all numbers of a call stand so
pub record Stands (z : Sizes) (n : Numbers) : Type 0 where
  pub times : AllByRecursion (Whole z.dt) n.times
  pub values : AllByRecursion (IsValue z) n.values
  pub slopes : AllByRecursion (IsSlope z) n.slopes

-- the sizes themselves, for a window that ends at `end`: no grid is empty, the steepness is at least 1, and steepness
-- times the end is at most the largest
pub record AreSizes (z : Sizes) (end : ℚ) : Type 0 where
  pub dv : 0 < z.dv
  pub dt : 0 < z.dt
  pub ds : 0 < z.ds
  pub steepness : 1 ≤ z.steepness
  pub largest : 1 ≤ z.largest
  pub window : Whole z.dt end
  pub reach : int (pos z.steepness) *ℚ end ≤ℚ int (pos z.largest)

-- the grid on which every sum of values, and of slopes times starts, stands
abbrev pub grid_of : Sizes → ℕ
grid_of z = z.dv * z.dt * z.ds

-- k times the largest value
abbrev pub times_largest : ℕ → Sizes → ℚ
times_largest k z = int (pos k) *ℚ int (pos z.largest)

abbrev pub ValueStands : Sizes → Ext → Type 0
ValueStands z Inf = Unit {0}
ValueStands z (Fin v) = IsValue z v

abbrev pub LineStands : Sizes → Option Line → Type 0
LineStands z None = Unit {0}
LineStands z (Some l) = IsSlope z l.slope

-- a piece with its end: the start, the values at it, just after it and just before the next start, and the slope
pub record SpanStands (z : Sizes) (s : Span) : Type 0 where
  pub start : Whole z.dt s.piece.x
  pub at : ValueStands z s.piece.at
  pub after : ValueStands z (line_value s.piece.line s.piece.x)
  pub before : ValueStands z (limit_before s.piece.line s.next)
  pub slope : LineStands z s.piece.line

pub record PeriodStands (z : Sizes) (period rise : ℚ) : Type 0 where
  pub whole : Whole z.dt period
  pub value : IsValue z rise

abbrev pub TailStands : Sizes → Tail → Type 0
TailStands z (Periodic rank period rise) = PeriodStands z period rise
TailStands z (Affine rank) = Unit {0}
TailStands z (Infinite rank) = Unit {0}

-- a curve: its rank, period and rise, and each of its pieces
pub record CurveStands (z : Sizes) (c : SpecCurve) : Type 0 where
  pub rank : Whole z.dt (rank_of c.tail)
  pub tail : TailStands z c.tail
  pub spans : AllByRecursion (SpanStands z) (spans c.tail c.pieces)

-- sizes of a gauge below 2 ^ 128 hold these numbers of a window that ends at `end`
pub record HeldBy (z : Sizes) (end : ℚ) (n : Numbers) : Type 0 where
  pub sizes : AreSizes z end
  pub gauge : gauge_of z < 2 ^ 128
  pub stands : Stands z n
