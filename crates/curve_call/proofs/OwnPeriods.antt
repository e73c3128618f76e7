-- A curve over one period of its own, which is no longer than the period that it is compared over.
use Rattle.std.specs.Prelude.{◌≡◌, pos, List, map}
use Rattle.std.specs.List.{AllByRecursion}
use Rattle.std.proofs.Common.{arith, sym, ap, ◌∙◌, subst}
use Rattle.rational.specs.Rational.{ℚ, ◌+ℚ◌, ◌*ℚ◌, ◌≤ℚ◌, ◌<ℚ◌, int}
use Rattle.rational.specs.Ratio.{SumFits}
use Rattle.rational.specs.Grid.{Whole}
use Rattle.rational.proofs.Linear.{with2, with3}
use Rattle.rational.proofs.Laws.{le_refl, le_trans, le_of_lt, one_mul, mul_nonneg, mul_le_mul}
use Rattle.rational.proofs.Integers.{nat_nonneg}
use Rattle.rational.proofs.Whole.{one_more_times}
use Rattle.rational.proofs.Grid.{whole_add, whole_sub}
use Rattle.upp_curve.specs.declared.affine_segment.line.Piece.{Piece}
use Rattle.upp_curve.specs.declared.curve.Tail.{Tail}
use Rattle.upp_curve.specs.declared.curve.Tail.TheVariants.{Periodic, Affine, Infinite}
use Rattle.upp_curve.specs.Curve.{SpecCurve, value_at}
use Rattle.upp_curve.specs.Normal.{TailFits}
use Rattle.upp_curve.specs.Steady.{IsWholePeriods}
use Rattle.upp_limits.specs.Periods.{period_of, period_or}
use Rattle.upp_limits.specs.Limits.{Sizes, stored_period}
use Rattle.upp_limits.specs.Spans.{spans_below}
use Rattle.upp_limits.proofs.Every.{every_left}
use Rattle.upp_limits.proofs.Operands.{curve_period}
use Rattle.upp_normal.specs.Ahead.{HasWindow, IsTimeIn}
use Rattle.upp_normal.proofs.GaugeRises.{curve_earlier}
use Rattle.upp_normal.specs.Operand.{AreLimited}
use Rattle.curve_call.specs.Compared.{AreCompared, IsLookedAt}
use Rattle.curve_call.specs.Gaps.{InWindow, IsLargest}
use Rattle.curve_call.specs.Bounds.{own_or, OwnWindow}
use Rattle.curve_call.specs.Levels.{level_curve}
use Rattle.curve_call.proofs.RateRises.{some_periods}
use Rattle.curve_call.proofs.LeastNumber.{compared_window, end_fits}
use Rattle.curve_call.proofs.Levels.{zero_window}

-- ---- one of two that are compared
pub first_looked : (z : Sizes) (from d : ℚ) (f g : SpecCurve) → AreCompared z from d f g → IsLookedAt z from d f
first_looked z from d f g C = record { limited = C.limited; start = C.start; some = C.some; curve = C.first }

pub second_looked : (z : Sizes) (from d : ℚ) (f g : SpecCurve) → AreCompared z from d f g → IsLookedAt z from d g
second_looked z from d f g C = record { limited = C.limited; start = C.start; some = C.some; curve = C.second }

with_itself : (z : Sizes) (from d : ℚ) (c : SpecCurve) → IsLookedAt z from d c → AreCompared z from d c c
with_itself z from d c L = record { limited = L.limited; start = L.start; some = L.some; first = L.curve; second = L.curve }

-- ---- its own period
pub record OwnPeriod (z : Sizes) (d own : ℚ) (tail : Tail) : Type 0 where
  pub some : int (pos 0) <ℚ own
  pub high : own ≤ℚ d
  pub whole : Whole z.dt own
  pub periods : IsWholePeriods tail own

tail_period : (z : Sizes) (d : ℚ) (ps : List Piece) (tail : Tail) → TailFits ps tail → int (pos 0) <ℚ d → Whole z.dt d → IsWholePeriods tail d → AllByRecursion (Whole z.dt) (stored_period tail)
    → OwnPeriod z d (period_or d (period_of tail)) tail
tail_period z d ps (Periodic rank period rise) fits some on whole stored =
    let (n, e) = whole in
    let (m, f) = some_periods n d period e some in
    let g : d ≡ int (pos m) *ℚ period +ℚ period = e ∙ ap (λ k. int (pos k) *ℚ period) f ∙ one_more_times m period in
    let y = int (pos m) *ℚ period in
    let low : int (pos 0) ≤ℚ y = mul_nonneg (nat_nonneg m) (le_of_lt fits.some) in
    record { some = fits.some; high = with3 d y period (λ c. omega (arith, c.le, c.lt, c.same)); whole = stored.0; periods = (1, sym (one_mul period)) }
tail_period z d ps (Affine rank) fits some on whole stored = record { some = some; high = le_refl d; whole = on; periods = tt }
tail_period z d ps (Infinite rank) fits some on whole stored = record { some = some; high = le_refl d; whole = on; periods = tt }

pub own_period_is : (z : Sizes) (from d : ℚ) (c : SpecCurve) → IsLookedAt z from d c → OwnPeriod z d (own_or d c) c.tail
own_period_is z from d c L =
    let R = L.curve in
    let on : Whole z.dt d = subst (Whole z.dt) (with2 from d (λ c. omega (arith, c.le, c.lt, c.same))) (whole_sub z.dt (from +ℚ d) from L.limited.sizes.window L.start) in
    tail_period z d c.pieces c.tail R.curve.normal.raw.tail L.some on R.periods
    (every_left (Whole z.dt) (stored_period c.tail) (map (λ s. s.piece.x) (spans_below c (from +ℚ d))) R.stands.times.1)

-- sizes hold a shorter window
pub limited_less : (z : Sizes) (end e : ℚ) → AreLimited z end → Whole z.dt e → int (pos 0) ≤ℚ e → e ≤ℚ end → AreLimited z e
limited_less z end e A w some l = record {
  sizes = record {
    dv = A.sizes.dv;
    dt = A.sizes.dt;
    ds = A.sizes.ds;
    steepness = A.sizes.steepness;
    largest = A.sizes.largest;
    window = w;
    reach = le_trans (mul_le_mul (int (pos z.steepness)) (nat_nonneg z.steepness) l) A.sizes.reach;
  };
  gauge = A.gauge;
  some = some;
}

-- ---- looked at over it
pub own_looked : (z : Sizes) (from d : ℚ) (c : SpecCurve) → IsLookedAt z from d c → IsLookedAt z from (own_or d c) c
own_looked z from d c L =
    let R = L.curve in
    let A = L.limited in
    let P = own_period_is z from d c L in
    let p = own_or d c in
    let high = P.high in
    let some = P.some in
    let early : from +ℚ p ≤ℚ from +ℚ d = with3 from p d (λ c. omega (arith, c.le, c.lt, c.same)) in
    let low = (compared_window z from d c c R.curve R.curve (with_itself z from d c L)).2.nonneg in
    record {
      limited = limited_less z (from +ℚ d) (from +ℚ p) A (whole_add z.dt from p L.start P.whole) (with2 from p (λ c. omega (arith, c.le, c.lt, c.same))) early;
      start = L.start;
      some = some;
      curve = record { curve = R.curve; stands = curve_earlier z (from +ℚ p) (from +ℚ d) c (curve_period c R.curve) early R.stands; steady_by = R.steady_by; periods = P.periods };
    }

-- ---- what is asked over a window of that
pub looked_window : (z : Sizes) (from d : ℚ) (c : SpecCurve) → IsLookedAt z from d c → HasWindow z (from +ℚ d) c × IsTimeIn z (from +ℚ d) from
looked_window z from d c L = let W = compared_window z from d c c L.curve.curve L.curve.curve (with_itself z from d c L) in (W.0, W.2)

pub looked_fits : (z : Sizes) (from d : ℚ) (c : SpecCurve) → IsLookedAt z from d c → SumFits from d
looked_fits z from d c L = end_fits z from d c c L.curve.curve (with_itself z from d c L)

pub looked_zero : (z : Sizes) (from d : ℚ) (c : SpecCurve) → IsLookedAt z from d c → HasWindow z (from +ℚ d) (level_curve (int (pos 0)))
looked_zero z from d c L =
    let T = (looked_window z from d c L).1 in
    let low = T.nonneg in
    let before = T.before in
    zero_window z (from +ℚ d) L.limited (let e = from +ℚ d in with2 from e (λ c. omega (arith, c.le, c.lt, c.same)))

-- ---- as it is reckoned: with a period, an end and a level that have names
pub named_fits : (z : Sizes) (from d own : ℚ) (c : SpecCurve) → IsLookedAt z from d c → own ≡ own_or d c → SumFits from own
named_fits z from d own c L e = subst (SumFits from) (sym e) (looked_fits z from (own_or d c) c (own_looked z from d c L))

pub named_windows : (z : Sizes) (from d own end : ℚ) (c zero : SpecCurve) → IsLookedAt z from d c → own ≡ own_or d c → end ≡ from +ℚ own → zero ≡ level_curve (int (pos 0))
    → HasWindow z end c × HasWindow z end zero × IsTimeIn z end from
named_windows z from d own end c zero L e f g =
    let K = own_looked z from d c L in
    let p = own_or d c in
    let same : end ≡ from +ℚ p = f ∙ ap (λ x. from +ℚ x) e in
    let (W, T) = looked_window z from p c K in (
      subst (λ x. HasWindow z x c) (sym same) W,
      subst (λ k. HasWindow z end k) (sym g) (subst (λ x. HasWindow z x (level_curve (int (pos 0)))) (sym same) (looked_zero z from p c K)),
      subst (λ x. IsTimeIn z x from) (sym same) T,
    )

pub named_top : (from d own end q : ℚ) (c zero : SpecCurve) → own ≡ own_or d c → end ≡ from +ℚ own → zero ≡ level_curve (int (pos 0)) → IsLargest (InWindow from end) (value_at c) (value_at zero) q
    → IsLargest (OwnWindow from d c) (value_at c) (value_at (level_curve (int (pos 0)))) q
named_top from d own end q c zero e f g L =
    subst (λ x. IsLargest (InWindow from x) (value_at c) (value_at (level_curve (int (pos 0)))) q) (f ∙ ap (λ x. from +ℚ x) e) (subst (λ k. IsLargest (InWindow from end) (value_at c) (value_at k) q) g L)

pub named_depth : (from d own end q : ℚ) (c zero : SpecCurve) → own ≡ own_or d c → end ≡ from +ℚ own → zero ≡ level_curve (int (pos 0)) → IsLargest (InWindow from end) (value_at zero) (value_at c) q
    → IsLargest (OwnWindow from d c) (value_at (level_curve (int (pos 0)))) (value_at c) q
named_depth from d own end q c zero e f g L =
    subst (λ x. IsLargest (InWindow from x) (value_at (level_curve (int (pos 0)))) (value_at c) q) (f ∙ ap (λ x. from +ℚ x) e) (subst (λ k. IsLargest (InWindow from end) (value_at k) (value_at c) q) g L)
