-- The numbers that set the limits: how many pieces a call looks at, and its gauge: where that is below 2 ^ 120, no step
-- on the call's way is too wide. All are of curves whose pieces have any size, and of a window's end H. Own choice.
use Rattle.std.specs.Prelude.{ℕ, ◌*◌, max, pos, List, [], ◌∷◌, ◌++◌, Option, Some, None, map}
use Rattle.std.specs.List.{flat_map}
use Rattle.rational.specs.Rational.{ℚ, ◌+ℚ◌, ◌*ℚ◌, int}
use Rattle.rational.specs.Extended.{Ext}
use Rattle.rational.specs.declared.Extended.TheVariants.{Fin, Inf}
use Rattle.rational.specs.Gauge.{common_den, bound_of}
use Rattle.upp_curve.specs.declared.affine_segment.line.Line.{Line}
use Rattle.upp_curve.specs.declared.curve.Tail.{Tail}
use Rattle.upp_curve.specs.declared.curve.Tail.TheVariants.{Periodic, Affine, Infinite}
use Rattle.upp_curve.specs.Curve.{SpecCurve}
use Rattle.upp_curve.specs.affine_segment.Values.{line_value}
use Rattle.upp_curve.specs.Steady.{rank_of, steady}
use Rattle.min_plus.specs.WholeUp.{whole_up}
use Rattle.upp_curve.specs.Unrolled.{count}
use Rattle.upp_limits.specs.Periods.{own_period}
use Rattle.upp_limits.specs.Spans.{Span, spans_below}

-- ---- the numbers of some spans
abbrev pub finite : Ext → List ℚ
finite Inf = []
finite (Fin v) = v ∷ []

-- the limit of a line just before the next start; infinity where there is none
abbrev pub limit_before : Option Line → Option ℚ → Ext
limit_before l None = Inf
limit_before l (Some e) = line_value l e

-- the finite values of a span: at its start, just after it, and just before the next start
abbrev pub span_values : Span → List ℚ
span_values s =
    finite s.piece.at ++ finite (line_value s.piece.line s.piece.x) ++ finite (limit_before s.piece.line s.next)

abbrev pub line_slope : Option Line → List ℚ
line_slope None = []
line_slope (Some l) = l.slope ∷ []

abbrev pub span_slopes : Span → List ℚ
span_slopes s = line_slope s.piece.line

-- ---- the numbers of a call
-- the times, values and slopes that count
pub record Numbers : Type 0 where
  pub times : List ℚ
  pub values : List ℚ
  pub slopes : List ℚ

abbrev pub no_numbers : Numbers
no_numbers = record { times = []; values = []; slopes = [] }

abbrev pub time_alone : ℚ → Numbers
time_alone x = record { times = x ∷ []; values = []; slopes = [] }

abbrev pub values_alone : List ℚ → Numbers
values_alone vs = record { times = []; values = vs; slopes = [] }

abbrev pub value_alone : ℚ → Numbers
value_alone v = values_alone (v ∷ [])

abbrev pub slopes_alone : List ℚ → Numbers
slopes_alone ss = record { times = []; values = []; slopes = ss }

abbrev pub slope_alone : ℚ → Numbers
slope_alone s = slopes_alone (s ∷ [])

abbrev pub joined : Numbers → Numbers → Numbers
joined a b = record { times = a.times ++ b.times; values = a.values ++ b.values; slopes = a.slopes ++ b.slopes }

abbrev pub stored_period : Tail → List ℚ
stored_period (Periodic rank period rise) = period ∷ []
stored_period (Affine rank) = []
stored_period (Infinite rank) = []

abbrev pub stored_rise : Tail → List ℚ
stored_rise (Periodic rank period rise) = rise ∷ []
stored_rise (Affine rank) = []
stored_rise (Infinite rank) = []

-- a curve's rank, period and rise, and the starts, values and slopes of its unrolled pieces that start below `end`
abbrev pub curve_numbers : ℚ → SpecCurve → Numbers
curve_numbers end c = record {
  times = rank_of c.tail ∷ stored_period c.tail ++ map (λ s. s.piece.x) (spans_below c end);
  values = stored_rise c.tail ++ flat_map span_values (spans_below c end);
  slopes = flat_map span_slopes (spans_below c end);
}

-- ---- the five sizes and the gauge
-- dv, dt, ds: the least common denominators of values, of times with the window's end, and of slopes; steepness: the
-- least whole number that is at least 1 and at least twice the size of each slope; largest: the least that is at least
-- 1, at least the size of each value, and at least steepness times the end
pub record Sizes : Type 0 where
  pub dv : ℕ
  pub dt : ℕ
  pub ds : ℕ
  pub steepness : ℕ
  pub largest : ℕ

abbrev pub twice : List ℚ → List ℚ
twice xs = map (λ s. int (pos 2) *ℚ s) xs

abbrev pub sizes_of : ℚ → Numbers → Sizes
sizes_of end n = record {
  dv = common_den n.values;
  dt = common_den (end ∷ n.times);
  ds = common_den n.slopes;
  steepness = bound_of (twice n.slopes);
  largest = max (bound_of n.values) (whole_up (int (pos (bound_of (twice n.slopes))) *ℚ end));
}

unfoldable pub gauge_of : Sizes → ℕ
gauge_of z = 64 * (z.largest * z.steepness * z.dv * z.dt * z.ds * z.ds)

-- of one curve by itself, in whatever form it is given: its window ends one period (1 where it has every period) after
-- it begins to repeat
unfoldable pub own_end : SpecCurve → ℚ
own_end c = steady c +ℚ own_period c

unfoldable pub own_sizes : SpecCurve → Sizes
own_sizes c = sizes_of (own_end c) (curve_numbers (own_end c) c)

abbrev pub own_gauge : SpecCurve → ℕ
own_gauge c = gauge_of (own_sizes c)

abbrev pub own_tally : SpecCurve → ℕ
own_tally c = count c (own_end c)
