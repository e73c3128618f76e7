-- The times of a curve in a call's window: from when on it repeats, its period and the common one of two stand on the grid of times, and steps
-- with times up to the window's end fit.
use Rattle.std.specs.Prelude.{◌≡◌, ℕ, ◌*◌, ◌<◌, ◌≤◌, ◌^◌, pos, ◌<ℤ◌, Bool, true, false, List, Option, Some, None}
use Rattle.std.proofs.Common.{arith, sym, subst}
use Rattle.std.proofs.lemmas.Int.{ints}
use native.Mathlib.Nat.{mul-le-mul_right}
use Rattle.rational.specs.Rational.{ℚ, ◌*ℚ◌, ◌≤ℚ◌, ◌<ℚ◌, int}
use Rattle.rational.specs.Ratio.{SumFits}
use Rattle.rational.specs.Grid.{Whole, Within}
use Rattle.rational.proofs.Linear.{with3}
use Rattle.rational.proofs.Laws.{le_trans, le_of_lt, mul_le_mul, mul_le_mul_right, mul_nonneg, mul_pos, mul_one, mul_assoc}
use Rattle.rational.proofs.Integers.{nat_le, nat_le_out, nat_lt, nat_nonneg, int_le, int_lt_out, mul_whole}
use Rattle.rational.proofs.Grid.{whole_int, whole_add, whole_times, within_nonneg}
use Rattle.rational.proofs.Sizes.{sum_on_grid}
use Rattle.fraction128.proofs.CommonMultiple.{common_multiple_least}
use Rattle.upp_curve.specs.declared.affine_segment.line.Piece.{Piece}
use Rattle.upp_curve.specs.declared.curve.Tail.{Tail}
use Rattle.upp_curve.specs.declared.curve.Tail.TheVariants.{Periodic, Affine, Infinite}
use Rattle.upp_curve.specs.Curve.{SpecCurve}
use Rattle.upp_curve.specs.Curves.{IsCurve}
use Rattle.upp_curve.specs.Steady.{rank_of, later_unless, steady}
use Rattle.upp_limits.specs.Periods.{HasPeriod, period_of, period_or, common_of, common_period, own_period, periods_after}
use Rattle.upp_limits.specs.Limits.{Sizes, curve_numbers, sizes_of}
use Rattle.upp_limits.specs.Sized.{AreSizes, Stands, TailStands}
use Rattle.upp_limits.proofs.Operands.{curve_period}
use Rattle.upp_limits.proofs.CurveStands.{tail_stands}
use Rattle.upp_limits.proofs.NarrowSizes.{IsNarrow}
use Rattle.upp_limits.proofs.OwnGauge.{end_within, twice_fits}
use Rattle.curve_call.specs.Times.{OneLaterFits, BothSteadyFit, PeriodsFit}
use Rattle.upp_normal.proofs.UnrollSteps.{time_small}
use Rattle.upp_curve.proofs.SteadyTimes.{curve_rank, rank_early}
use Rattle.upp_limits.specs.Gauges.{both_numbers}
use Rattle.upp_limits.proofs.Stands.{sizes_stand, stands_left, stands_right}

-- ---- steps of times up to the window's end
pub sum_fits : (z : Sizes) (end a b : ℚ) → AreSizes z end → IsNarrow z (2 ^ 122) → Whole z.dt a → Whole z.dt b → Within (int (pos z.largest)) a → Within (int (pos z.largest)) b → SumFits a b
sum_fits z end a b s n wa wb ia ib =
    let t = n.times in
    let V = int (pos z.largest) in
    let one : 1 * z.dt ≤ z.largest * z.dt = mul-le-mul_right z.dt s.largest in
    sum_on_grid z.dt V V a b s.dt (omega (arith, t, one)) (twice_fits z.largest z.dt t) wa wb ia ib

pub time_within : (z : Sizes) (end a : ℚ) → AreSizes z end → int (pos 0) ≤ℚ a → a ≤ℚ end → Within (int (pos z.largest)) a
time_within z end a s some l = within_nonneg (int (pos z.largest)) a some (le_trans l (end_within z end s (le_trans some l)))

one_within : (z : Sizes) (end : ℚ) → AreSizes z end → Within (int (pos z.largest)) (int (pos 1))
one_within z end s = within_nonneg (int (pos z.largest)) (int (pos 1)) (nat_nonneg 1) (nat_le 1 z.largest s.largest)

-- a period on the grid is at least one step of it
one_step : (d : ℕ) (p : ℚ) → 0 < d → Whole d p → int (pos 0) <ℚ p → int (pos 1) ≤ℚ p *ℚ int (pos d)
one_step d p some w above =
    let l : int (pos 0) <ℚ int w.steps = subst (λ x. int (pos 0) <ℚ x) w.is (mul_pos above (nat_lt 0 d some)) in
    let more : pos 0 <ℤ w.steps = int_lt_out (pos 0) w.steps l in
    subst (λ x. int (pos 1) ≤ℚ x) (sym w.is) (int_le (pos 1) w.steps (omega (arith, ints)))

few_periods : (z : Sizes) (end p : ℚ) (n : ℕ) → AreSizes z end → Whole z.dt p → int (pos 0) <ℚ p → int (pos n) *ℚ p ≤ℚ end → n ≤ z.largest * z.dt
few_periods z end p n s w above l =
    let dt = int (pos z.dt) in
    let run : int (pos n) ≤ℚ int (pos n) *ℚ (p *ℚ dt) = subst (λ x. x ≤ℚ int (pos n) *ℚ (p *ℚ dt)) (mul_one (int (pos n))) (mul_le_mul (int (pos n)) (nat_nonneg n) (one_step z.dt p s.dt w above)) in
    let same : int (pos n) *ℚ (p *ℚ dt) ≡ (int (pos n) *ℚ p) *ℚ dt = sym (mul_assoc (int (pos n)) p dt) in
    let some : int (pos 0) ≤ℚ int (pos n) *ℚ p = mul_nonneg (nat_nonneg n) (le_of_lt above) in
    let far : (int (pos n) *ℚ p) *ℚ dt ≤ℚ int (pos z.largest) *ℚ dt = mul_le_mul_right dt (nat_nonneg z.dt) (le_trans l (end_within z end s (le_trans some l))) in
    nat_le_out n (z.largest * z.dt)
    (subst (λ x. int (pos n) ≤ℚ x) (mul_whole (pos z.largest) (pos z.dt) 0) (le_trans (subst (λ x. int (pos n) ≤ℚ x) same run) far))

pub periods_fit : (z : Sizes) (end t p : ℚ) (n : ℕ) → AreSizes z end → IsNarrow z (2 ^ 122) → Whole z.dt t → Whole z.dt p → int (pos 0) ≤ℚ t → int (pos 0) <ℚ p
    → periods_after t n p ≤ℚ end → PeriodsFit t n p
periods_fit z end t p n s narrow wt wp some above l =
    let run = int (pos n) *ℚ p in
    let wr : Whole z.dt run = whole_times z.dt (pos n) p wp in
    let some_run : int (pos 0) ≤ℚ run = mul_nonneg (nat_nonneg n) (le_of_lt above) in
    let run_in : run ≤ℚ end = with3 t run end (λ c. omega (arith, c.le, c.lt, c.same)) in
    let t_in : t ≤ℚ end = with3 t run end (λ c. omega (arith, c.le, c.lt, c.same)) in
    let few = few_periods z end p n s wp above run_in in
    let times = narrow.times in
    record {
      few = omega (arith, few, times);
      run = time_small z end run s narrow wr some_run run_in;
      sum = sum_fits z end t run s narrow wt wr (time_within z end t s some t_in) (time_within z end run s some_run run_in);
    }

-- ---- one curve
later_whole : (d : ℕ) (b : Bool) (rank : ℚ) → Whole d rank → Whole d (later_unless b rank)
later_whole d true rank w = w
later_whole d false rank w = whole_add d rank (int (pos 1)) w (whole_int d (pos 1))

steady_on : (d : ℕ) (ps : List Piece) (tail : Tail) → Whole d (rank_of tail) → Whole d (steady record { pieces = ps; tail = tail })
unfolding steady
steady_on d ps (Periodic rank period rise) w = w
steady_on d ps (Affine rank) w = later_whole d _ rank w
steady_on d ps (Infinite rank) w = later_whole d _ rank w

pub steady_whole : (z : Sizes) (end : ℚ) (c : SpecCurve) → Stands z (curve_numbers end c) → Whole z.dt (steady c)
steady_whole z end c h = steady_on z.dt c.pieces c.tail h.times.0

pub one_later : (z : Sizes) (end : ℚ) (c : SpecCurve) → AreSizes z end → IsNarrow z (2 ^ 122) → IsCurve c → Stands z (curve_numbers end c) → steady c ≤ℚ end → OneLaterFits c
one_later z end c s n is h l =
    sum_fits z end (rank_of c.tail) (int (pos 1)) s n h.times.0 (whole_int z.dt (pos 1))
    (time_within z end (rank_of c.tail) s (curve_rank c is) (le_trans (rank_early c) l)) (one_within z end s)

-- ---- periods
pub record IsPeriod (d : ℕ) (p : ℚ) : Type 0 where
  pub whole : Whole d p
  pub above : int (pos 0) <ℚ p

abbrev pub SomePeriod : ℕ → Option ℚ → Type 0
SomePeriod d None = Unit {0}
SomePeriod d (Some p) = IsPeriod d p

pub one_period : (d : ℕ) → IsPeriod d (int (pos 1))
one_period d = record { whole = whole_int d (pos 1); above = nat_lt 0 1 (omega arith) }

common_on : (d : ℕ) (x y : Option ℚ) → SomePeriod d x → SomePeriod d y → IsPeriod d (common_of x y)
common_on d None None h k = one_period d
common_on d None (Some q) h k = k
common_on d (Some p) None h k = h
common_on d (Some p) (Some q) h k =
    let least = common_multiple_least p q h.above k.above in
    record { whole = subst (Whole d) (sym least.left.is) (whole_times d (pos least.left.times) p h.whole); above = least.above }

tail_period : (z : Sizes) (tail : Tail) → HasPeriod tail → TailStands z tail → SomePeriod z.dt (period_of tail)
tail_period z (Periodic rank period rise) some h = record { whole = h.whole; above = some }
tail_period z (Affine rank) some h = tt
tail_period z (Infinite rank) some h = tt

curve_some : (z : Sizes) (end : ℚ) (c : SpecCurve) → IsCurve c → Stands z (curve_numbers end c) → SomePeriod z.dt (period_of c.tail)
curve_some z end c is h = tail_period z c.tail (curve_period c is) (tail_stands z end c.pieces c.tail h)

pub own_on : (z : Sizes) (end : ℚ) (c : SpecCurve) → IsCurve c → Stands z (curve_numbers end c) → IsPeriod z.dt (own_period c)
unfolding own_period
own_on z end c is h = common_on z.dt (period_of c.tail) None (curve_some z end c is h) tt

pub both_on : (z : Sizes) (end : ℚ) (f g : SpecCurve) → IsCurve f → IsCurve g → Stands z (curve_numbers end f) → Stands z (curve_numbers end g) → IsPeriod z.dt (common_period f g)
unfolding common_period
both_on z end f g is_f is_g h k = common_on z.dt (period_of f.tail) (period_of g.tail) (curve_some z end f is_f h) (curve_some z end g is_g k)

or_on : (d : ℕ) (p : ℚ) (x : Option ℚ) → IsPeriod d p → SomePeriod d x → IsPeriod d (period_or p x)
or_on d p None h k = h
or_on d p (Some q) h k = k

pub own_or_on : (z : Sizes) (end p : ℚ) (c : SpecCurve) → IsCurve c → Stands z (curve_numbers end c) → IsPeriod z.dt p → IsPeriod z.dt (period_or p (period_of c.tail))
own_or_on z end p c is h k = or_on z.dt p (period_of c.tail) k (curve_some z end c is h)

-- ---- two curves

pub both_fit : (z : Sizes) (end : ℚ) (f g : SpecCurve) → AreSizes z end → IsNarrow z (2 ^ 122) → IsCurve f → IsCurve g → Stands z (curve_numbers end f) → Stands z (curve_numbers end g)
    → steady f ≤ℚ end → steady g ≤ℚ end → BothSteadyFit f g
both_fit z end f g s n is_f is_g h k l m = record { first = one_later z end f s n is_f h l; second = one_later z end g s n is_g k m }

-- ---- two curves have a period in common
pub common_some : (f g : SpecCurve) → IsCurve f → IsCurve g → int (pos 0) <ℚ common_period f g
common_some f g F G =
    let end = int (pos 0) in
    let z = sizes_of end (both_numbers end f g) in
    let all : Stands z (both_numbers end f g) = sizes_stand end (both_numbers end f g) in
    (both_on z end f g F G (stands_left z (curve_numbers end f) (curve_numbers end g) all) (stands_right z (curve_numbers end f) (curve_numbers end g) all)).above
