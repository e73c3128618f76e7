-- A curve that is too wide for any call is refused by a minimum and by a convolution.
use Rattle.std.specs.Prelude.{◌≡◌, ℕ, zero, suc, ◌+◌, ◌^◌, pos, List, Option, Some, None}
use Rattle.std.proofs.Common.{arith, sym, ◌∙◌, subst}
use Rattle.rational.specs.Rational.{ℚ, ◌+ℚ◌, ◌*ℚ◌, ◌≤ℚ◌, ◌<ℚ◌, int}
use Rattle.rational.proofs.MinMax.{max_q_ge_left}
use Rattle.rational.proofs.Linear.{with1, with2, with4, with5}
use Rattle.rational.proofs.Laws.{le_refl, le_trans, lt_irrefl, le_of_lt, mul_nonneg, zero_mul, one_mul, mul_le_mul_right}
use Rattle.rational.proofs.Integers.{nat_nonneg, nat_le}
use Rattle.rational.proofs.Whole.{one_more_times}
use Rattle.fraction128.proofs.CommonMultiple.{common_multiple_least}
use Rattle.upp_curve.specs.declared.affine_segment.line.Piece.{Piece}
use Rattle.upp_curve.specs.declared.curve.Tail.{Tail}
use Rattle.upp_curve.specs.declared.curve.Tail.TheVariants.{Periodic, Affine, Infinite}
use Rattle.upp_limits.specs.declared.op_kind.OpKind.TheVariants.{Min, Convolve}
use Rattle.upp_normal.specs.Ahead.{IsOverBy}
use Rattle.upp_curve.specs.Curve.{SpecCurve}
use Rattle.min_plus.specs.Functions.{zero_q}
use Rattle.upp_curve.specs.Normal.{IsRaw, TailFits}
use Rattle.upp_limits.specs.Gauges.{gauge_at}
use Rattle.upp_limits.specs.Periods.{period_of, common_of, common_period, both_steady, periods_after, HasPeriod}
use Rattle.upp_curve.specs.Steady.{rank_of, steady}
use Rattle.upp_limits.specs.Windows.{window_at}
use Rattle.upp_limits.proofs.CurveStands.{has_period}
use Rattle.upp_normal.proofs.GaugeRises.{first_operand}
use Rattle.upp_limits.proofs.OwnGauge.{large}
use Rattle.subadd_closure.specs.HeavyLaws.{HeavyIsRefused}
use Rattle.upp_curve.proofs.SteadyTimes.{rank_early}

-- ---- when a curve begins to repeat

rank_low : (ps : List Piece) (tail : Tail) → TailFits ps tail → zero_q ≤ℚ rank_of tail
rank_low ps (Periodic rank period rise) h = h.nonneg
rank_low ps (Affine rank) h = h.nonneg
rank_low ps (Infinite rank) h = h.nonneg

steady_low : (c : SpecCurve) → IsRaw c → zero_q ≤ℚ steady c
steady_low c raw = le_trans (rank_low c.pieces c.tail raw.tail) (rank_early c)

-- ---- the common period
abbrev SomeAbove : Option ℚ → Type 0
SomeAbove None = Unit {0}
SomeAbove (Some p) = zero_q <ℚ p

tail_above : (tail : Tail) → HasPeriod tail → SomeAbove (period_of tail)
tail_above (Periodic rank period rise) h = h
tail_above (Affine rank) h = tt
tail_above (Infinite rank) h = tt

common_above : (x y : Option ℚ) → SomeAbove x → SomeAbove y → zero_q <ℚ common_of x y
common_above None None h k = with1 zero_q (λ c. omega (arith, c.le, c.lt, c.same))
common_above None (Some q) h k = k
common_above (Some p) None h k = h
common_above (Some p) (Some q) h k = (common_multiple_least p q h k).above

-- a whole number of times that is above 0 is at least one
times_reach : (n : ℕ) (d p : ℚ) → zero_q <ℚ p → d ≡ int (pos n) *ℚ p → zero_q <ℚ d → p ≤ℚ d
times_reach zero d p some e h =
    let z = zero_mul p in
    absurd (lt_irrefl zero_q (subst (λ x. zero_q <ℚ x) (e ∙ z) h))
times_reach (suc n) d p some e h =
    subst (λ x. p ≤ℚ x) (sym e) (subst (λ x. x ≤ℚ int (pos (suc n)) *ℚ p) (one_mul p) (mul_le_mul_right p (le_of_lt some) (nat_le 1 (suc n) (omega arith))))

common_reach : (p : ℚ) (y : Option ℚ) → zero_q <ℚ p → SomeAbove y → p ≤ℚ common_of (Some p) y
common_reach p None h k = le_refl p
common_reach p (Some q) h k =
    let m = common_multiple_least p q h k in
    times_reach m.left.times (common_of (Some p) (Some q)) p h m.left.is m.above

-- ---- the window of a call
-- one common period after the rank the curve's own first period is over
over_common : (ps : List Piece) (tail : Tail) (y : Option ℚ) (from end : ℚ) → TailFits ps tail → SomeAbove y → rank_of tail ≤ℚ from
    → from +ℚ common_of (period_of tail) y ≤ℚ end → IsOverBy end tail
over_common ps (Periodic rank period rise) y from end fits k h l =
    let reach = common_reach period y fits.some k in
    with5 rank period from end (common_of (Some period) y) (λ c. omega (arith, c.le, c.lt, c.same))
over_common ps (Affine rank) y from end fits k h l =
    let above = common_above None y tt k in
    with4 rank from end (common_of None y) (λ c. omega (arith, c.le, c.lt, c.same))
over_common ps (Infinite rank) y from end fits k h l =
    let above = common_above None y tt k in
    with4 rank from end (common_of None y) (λ c. omega (arith, c.le, c.lt, c.same))

more_periods : (t d : ℚ) (n : ℕ) → zero_q <ℚ d → t +ℚ d ≤ℚ periods_after t (suc n) d
more_periods t d n some =
    let e = one_more_times n d in
    let low : zero_q ≤ℚ int (pos n) *ℚ d = mul_nonneg (nat_nonneg n) (le_of_lt some) in
    with4 t d (int (pos n) *ℚ d) (int (pos (suc n)) *ℚ d) (λ c. omega (arith, c.le, c.lt, c.same))

-- the window ends after the first period, and after 0
record IsLateEnd (c : SpecCurve) (end : ℚ) : Type 0 where
  over : IsOverBy end c.tail
  low : zero_q ≤ℚ end

late_end : (c g : SpecCurve) (from : ℚ) (n : ℕ) → IsRaw c → IsRaw g → steady c ≤ℚ from → IsLateEnd c (periods_after from (suc n) (common_period c g))
unfolding common_period
late_end c g from n raw_c raw_g h =
    let d = common_of (period_of c.tail) (period_of g.tail) in
    let x = tail_above c.tail (has_period c.pieces c.tail raw_c.tail) in
    let y = tail_above g.tail (has_period g.pieces g.tail raw_g.tail) in
    let some = common_above (period_of c.tail) (period_of g.tail) x y in
    let reach = more_periods from d n some in
    let first = steady_low c raw_c in
    let s = steady c in
    let end = periods_after from (suc n) d in
    record {
      over = over_common c.pieces c.tail (period_of g.tail) from end raw_c.tail y (le_trans (rank_early c) h) reach;
      low = with4 s from d end (λ c. omega (arith, c.le, c.lt, c.same));
    }

min_end : (c g : SpecCurve) (k m : ℕ) → IsRaw c → IsRaw g → IsLateEnd c (window_at Min c g k m)
unfolding window_at
min_end c g k m raw_c raw_g = late_end c g (both_steady c g) k raw_c raw_g (max_q_ge_left (steady c) (steady g))

convolve_end : (c g : SpecCurve) (k m : ℕ) → IsRaw c → IsRaw g → IsLateEnd c (window_at Convolve c g k m)
unfolding window_at
convolve_end c g k m raw_c raw_g =
    let first = steady_low g raw_g in
    let s = steady c in
    let t = steady g in
    let next : suc (k + 1) ≡ k + 2 = omega arith in
    subst (λ n. IsLateEnd c (periods_after (steady c +ℚ steady g) n (common_period c g))) next
    (late_end c g (steady c +ℚ steady g) (k + 1) raw_c raw_g (with2 s t (λ c. omega (arith, c.le, c.lt, c.same))))

pub heavy_is_refused : HeavyIsRefused
heavy_is_refused = record {
  min = λ c g raw_c raw_g heavy. record {
    looks = λ x. x;
    gauge = λ k m least. large (gauge_at Min c g k m) (2 ^ 120) (λ small.
        let e = min_end c g k m raw_c raw_g in
        let o = first_operand Min c g (window_at Min c g k m) e.low small in
        heavy o.sizes (window_at Min c g k m) o.limited e.over o.stands);
  };
  convolve = λ c g raw_c raw_g heavy. record {
    looks = λ x. x;
    gauge = λ k m least. large (gauge_at Convolve c g k m) (2 ^ 120) (λ small.
        let e = convolve_end c g k m raw_c raw_g in
        let o = first_operand Convolve c g (window_at Convolve c g k m) e.low small in
        heavy o.sizes (window_at Convolve c g k m) o.limited e.over o.stands);
  };
}
