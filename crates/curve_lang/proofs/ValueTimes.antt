-- The value of a curve at a time: what a gauge below the limit gives to the steps that find it.
use Rattle.std.specs.Prelude.{◌≡◌, ℕ, ◌*◌, ◌<◌, ◌≤◌, ◌^◌, pos, List, ◌∷◌, IsTrue, false, Option, Some, None, IsSome}
use Rattle.std.proofs.Common.{arith, sym, ap, ◌∙◌, true≢false}
use native.Mathlib.Nat.{le_of_dvd, mul-le-mul}
use Rattle.rational.specs.Rational.{ℚ, ◌+ℚ◌, ◌-ℚ◌, ◌≤ℚ◌, ◌<ℚ◌, int, neg_ℚ}
use Rattle.rational.specs.Grid.{Whole}
use Rattle.rational.specs.Gauge.{common_den}
use Rattle.rational.specs.Ratio.{SumFits}
use Rattle.rational.specs.Extended.{◌+ₑ◌}
use Rattle.rational.specs.declared.Extended.TheVariants.{Fin}
use Rattle.rational.proofs.Linear.{with3}
use Rattle.rational.proofs.Laws.{le_trans, le_of_lt, lt_le_trans, one_mul, sub_add}
use Rattle.rational.proofs.Grid.{whole_add, whole_sub}
use Rattle.rational.proofs.MinMax.{max_q_ge_left, max_q_ge_right}
use Rattle.min_plus.specs.Functions.{zero_q}
use Rattle.upp_curve.specs.declared.curve.Tail.{Tail}
use Rattle.upp_curve.specs.declared.curve.Tail.TheVariants.{Periodic, Affine, Infinite}
use Rattle.upp_curve.specs.declared.affine_segment.line.Piece.{Piece}
use Rattle.upp_curve.specs.Curve.{SpecCurve, value_at}
use Rattle.upp_curve.specs.Curves.{IsCurve}
use Rattle.upp_curve.specs.Steady.{steady, rise_over, IsWholePeriods}
use Rattle.upp_curve.proofs.Steady.{steady_rule}
use Rattle.upp_limits.specs.Periods.{own_period}
use Rattle.upp_limits.specs.declared.op_kind.OpKind.TheVariants as calls
use Rattle.upp_limits.specs.Limits.{Sizes, Numbers, time_alone, joined, curve_numbers, sizes_of, gauge_of, own_end}
use Rattle.upp_limits.specs.Sized.{Stands}
use Rattle.upp_limits.specs.Gauges.{gauge_over, gauge_at, numbers_over}
use Rattle.upp_limits.specs.Windows.{window_at}
use Rattle.upp_limits.proofs.CommonDen.{common_den_each, common_den_least, common_den_pos}
use Rattle.upp_limits.proofs.CurveStands.{are_sizes}
use Rattle.upp_limits.proofs.Operands.{curve_period}
use Rattle.upp_limits.proofs.Stands.{sizes_stand, stands_right}
use Rattle.upp_limits.proofs.NarrowSizes.{narrow_gauge, small_sum}
use Rattle.upp_normal.specs.Ahead.{IsOverBy, HasWindow, IsTimeIn, GridValue}
use Rattle.upp_normal.proofs.GaugeRises.{gauge_rises}
use Rattle.upp_normal.proofs.StretchSizes.{times_fit}
use Rattle.curve_call.specs.declared.windows.CallWindow.{CallWindow}
use Rattle.curve_call.specs.CallWindows.{IsWindow}
use Rattle.upp_curve.proofs.SteadyTimes.{rank_early, steady_nonneg}
use Rattle.curve_call.proofs.CurveTimes.{steady_whole, own_on}
use Rattle.curve_call.proofs.CurveRises.{IsRise, rise_is}
use Rattle.curve_lang.specs.Finding.{value_end, value_gauge}
use Rattle.curve_lang.specs.Times.{IsPastOwn}

-- ---- the gauge
-- the numbers of a value, and its sizes
abbrev pub value_numbers : SpecCurve → ℚ → Numbers
value_numbers f t = joined (time_alone t) (curve_numbers (value_end f t) f)

abbrev pub value_sizes : SpecCurve → ℚ → Sizes
value_sizes f t = sizes_of (value_end f t) (value_numbers f t)

-- the gauge is that of a shift by the time, over the window's end
pub gauge_is : (f : SpecCurve) (t end : ℚ) → end ≡ value_end f t → gauge_over (calls.Shift (Fin t)) f f end ≡ value_gauge f t
unfolding gauge_over
gauge_is f t end e = ap (λ x. gauge_of (sizes_of x (joined (time_alone t) (curve_numbers x f)))) e

-- more times make no gauge less
more_times : (a b c d e g : ℕ) → d ≤ e → 64 * (a * b * c * d * g * g) ≤ 64 * (a * b * c * e * g * g)
more_times a b c d e g h =
    let all = mul-le-mul (mul-le-mul (mul-le-mul (le_self (a * b * c)) h) (le_self g)) (le_self g) in
    omega (arith, all)
  where
    le_self : (n : ℕ) → n ≤ n
    le_self n = omega arith

time_added : (f : SpecCurve) (t : ℚ) → gauge_over calls.Itself f f (value_end f t) ≤ value_gauge f t
unfolding gauge_over gauge_of
time_added f t =
    let end = value_end f t in
    let n = curve_numbers end f in
    let each = common_den_each (end ∷ t ∷ n.times) in
    let z = sizes_of end n in
    more_times z.largest z.steepness z.dv (common_den (end ∷ n.times)) (common_den (end ∷ t ∷ n.times)) z.ds
    (le_of_dvd (common_den_pos (end ∷ t ∷ n.times)) (common_den_least (common_den (end ∷ t ∷ n.times)) (end ∷ n.times) (each.0, each.1.1)))

own_whole : (z : Sizes) (end : ℚ) (f : SpecCurve) → IsCurve f → Stands z (curve_numbers end f) → Whole z.dt (own_end f)
unfolding own_end
own_whole z end f is h = whole_add z.dt (steady f) (own_period f) (steady_whole z end f h) (own_on z end f is h).whole

-- a value's gauge is no less than the curve's own
pub own_below : (f : SpecCurve) (t : ℚ) → IsCurve f → gauge_at calls.Itself f f 0 0 ≤ value_gauge f t
unfolding window_at own_end
own_below f t is =
    let end = value_end f t in
    let n = numbers_over calls.Itself f f end in
    let some = curve_period f is in
    let own = gauge_rises calls.Itself f f (own_end f) end some some (max_q_ge_right t (own_end f))
    (own_whole (sizes_of end n) end f is (sizes_stand end (curve_numbers end f))) in
    omega (arith, own, time_added f t)

pub no_window : (f : SpecCurve) (t : ℚ) → IsCurve f → (gauge_at calls.Itself f f 0 0 < 2 ^ 128 → ⊥) → 2 ^ 120 ≤ value_gauge f t
no_window f t is none = omega (arith, own_below f t is, none)

-- ---- the window
over_own : (ps : List Piece) (tail : Tail) (end : ℚ) → own_end record { pieces = ps; tail = tail } ≤ℚ end → IsOverBy end tail
unfolding own_end own_period steady
over_own ps (Periodic rank period rise) end h = h
over_own ps (Affine rank) end h =
    let l = rank_early record { pieces = ps; tail = Affine rank } in
    with3 rank (steady record { pieces = ps; tail = Affine rank }) end (λ c. omega (arith, c.le, c.lt, c.same))
over_own ps (Infinite rank) end h =
    let l = rank_early record { pieces = ps; tail = Infinite rank } in
    with3 rank (steady record { pieces = ps; tail = Infinite rank }) end (λ c. omega (arith, c.le, c.lt, c.same))

pub has_window : (f : SpecCurve) (t : ℚ) → IsCurve f → zero_q ≤ℚ t → value_gauge f t < 2 ^ 120 → HasWindow (value_sizes f t) (value_end f t) f
has_window f t is low h =
    let end = value_end f t in
    let n = value_numbers f t in
    record {
      curve = is;
      limited = record { sizes = are_sizes end n; gauge = h; some = le_trans low (max_q_ge_left t (own_end f)) };
      stands = stands_right (sizes_of end n) (time_alone t) (curve_numbers end f) (sizes_stand end n);
      over = over_own f.pieces f.tail end (max_q_ge_right t (own_end f));
    }

time_whole : (f : SpecCurve) (t : ℚ) → Whole (value_sizes f t).dt t
time_whole f t = (sizes_stand (value_end f t) (value_numbers f t)).times.0

-- a time before the end of the curve's own window
pub early_time : (f : SpecCurve) (t : ℚ) → zero_q ≤ℚ t → t <ℚ own_end f → IsTimeIn (value_sizes f t) (value_end f t) t
early_time f t low h = record { whole = time_whole f t; nonneg = low; before = lt_le_trans h (max_q_ge_right t (own_end f)) }

-- ---- past the curve's own window
pub record PastSteps (f : SpecCurve) (t : ℚ) : Type 0 where
  pub window : HasWindow (value_sizes f t) (value_end f t) f
  pub fits : SumFits t (neg_ℚ (own_period f))
  pub earlier : IsTimeIn (value_sizes f t) (value_end f t) (t -ℚ own_period f)
  pub late : steady f ≤ℚ t -ℚ own_period f
  pub rise : IsRise (value_sizes f t) f (own_period f)

own_periods : (tail : Tail) (ps : List Piece) → IsWholePeriods tail (own_period record { pieces = ps; tail = tail })
unfolding own_period
own_periods (Periodic rank period rise) ps = (1, sym (one_mul period))
own_periods (Affine rank) ps = tt
own_periods (Infinite rank) ps = tt

pub past_steps : (f : SpecCurve) (t : ℚ) → IsPastOwn f t → PastSteps f t
unfolding own_end
past_steps f t h =
    let z = value_sizes f t in
    let end = value_end f t in
    let T = steady f in
    let d = own_period f in
    let high : t ≤ℚ end = max_q_ge_left t (own_end f) in
    let low : zero_q ≤ℚ T = steady_nonneg f h.curve in
    let late : T +ℚ d ≤ℚ t = h.late in
    let on = own_on z end f h.curve (stands_right z (time_alone t) (curve_numbers end f) (sizes_stand end (value_numbers f t))) in
    let above : int (pos 0) <ℚ d = on.above in
    let w = has_window f t h.curve (with3 T d t (λ c. omega (arith, c.le, c.lt, c.same))) h.narrow in
    record {
      window = w;
      fits = (times_fit z end t d w.limited (time_whole f t) on.whole (with3 T d t (λ c. omega (arith, c.le, c.lt, c.same))) high
          (le_of_lt above) (le_trans (with3 T d t (λ c. omega (arith, c.le, c.lt, c.same))) high)).1;
      earlier = record {
        whole = whole_sub z.dt t d (time_whole f t) on.whole;
        nonneg = with3 T d t (λ c. omega (arith, c.le, c.lt, c.same));
        before = lt_le_trans (with3 T d t (λ c. omega (arith, c.le, c.lt, c.same))) high;
      };
      late = with3 T d t (λ c. omega (arith, c.le, c.lt, c.same));
      rise = rise_is z end f d w.limited h.curve w.stands (own_periods f.tail f.pieces) on.whole above (le_trans late high);
    }

period_nonneg : (f : SpecCurve) → IsCurve f → int (pos 0) ≤ℚ own_period f
period_nonneg f is =
    let end = own_end f in
    le_of_lt (own_on (sizes_of end (curve_numbers end f)) end f is (sizes_stand end (curve_numbers end f))).above

-- the value there is that of a period before, risen
pub past_value : (f : SpecCurve) (t : ℚ) → IsCurve f → PastSteps f t
    → value_at f t ≡ value_at f (t -ℚ own_period f) +ₑ Fin (rise_over f (own_period f))
past_value f t is p =
    let d = own_period f in
    let rule = steady_rule f d is.normal.raw (own_periods f.tail f.pieces) (period_nonneg f is) in
    ap (λ x. value_at f x) (sym (sub_add t d)) ∙ rule.rule (t -ℚ d) p.late

-- and the sum fits
pub past_sum : (f : SpecCurve) (t : ℚ) (v : ℚ) → PastSteps f t → GridValue (value_sizes f t) (Fin v) → SumFits v (rise_over f (own_period f))
past_sum f t v p g =
    let z = value_sizes f t in
    let end = value_end f t in
    let a = p.window.limited in
    let small = a.gauge in
    small_sum z end 3 3 v (rise_over f (own_period f)) a.sizes (narrow_gauge z end a.sizes (omega arith)) (omega arith) g.whole p.rise.whole g.within p.rise.within

-- ---- tests
-- where the gauge does not fit, it is not below the limit
pub not_narrow : (f : SpecCurve) (t end : ℚ) → end ≡ value_end f t → 2 ^ 128 ≤ gauge_over (calls.Shift (Fin t)) f f end
    → (IsTrue false → value_gauge f t < 2 ^ 120) × (value_gauge f t < 2 ^ 120 → IsTrue false)
not_narrow f t end e large =
    let same = gauge_is f t end e in
    ((λ b. absurd (true≢false (sym b))), (λ h. absurd (omega (arith, same, large, h))))

-- the window of a curve by itself
pub window_end : (f : SpecCurve) (w : CallWindow) → IsWindow calls.Itself f f 0 0 w → w.end ≡ own_end f
unfolding window_at own_end
window_end f w h = h.end

pub none_is : {A : Type 0} (o : Option A) → IsSome o → o ≡ None → ⊥
none_is None some e = absurd (true≢false (sym some))
none_is (Some x) some e = absurd (cc e)
