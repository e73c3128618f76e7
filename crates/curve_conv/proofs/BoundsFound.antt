-- Bounds of the number of periods of a convolution, over curves.
use Rattle.std.specs.Prelude.{◌≡◌, ℕ, ◌+◌, ◌≤◌, pos, Option, Some, None, IfSome}
use Rattle.std.proofs.Common.{arith, sym, subst, inl, inr}
use Rattle.rational.specs.Rational.{ℚ, ◌+ℚ◌, ◌-ℚ◌, ◌*ℚ◌, ◌/ℚ◌, ◌≤ℚ◌, ◌<ℚ◌, int}
use Rattle.rational.specs.Gauge.{size_up}
use Rattle.rational.specs.Grid.{Whole}
use Rattle.rational.specs.Extended.{Ext, ◌<ₑ◌}
use Rattle.rational.specs.declared.Extended.TheVariants.{Fin, Inf}
use Rattle.rational.proofs.Linear.{with2, with5, with7}
use Rattle.rational.proofs.Laws.{le_refl, le_trans, le_of_lt, one_mul, mul_nonneg, mul_le_mul_right}
use Rattle.rational.proofs.Integers.{nat_le, nat_nonneg}
use Rattle.rational.proofs.Quotients.{div_le}
use Rattle.rational.proofs.Grid.{whole_add}
use Rattle.plain_operators.proofs.pointwise.LatticeCalls.{more_periods}
use Rattle.upp_curve.specs.Curve.{SpecCurve, value_at}
use Rattle.upp_curve.specs.Steady.{steady, rate, rise_over, IsWholePeriods}
use Rattle.upp_limits.specs.Limits.{Sizes}
use Rattle.upp_limits.proofs.CommonDen.{size_up_within}
use Rattle.upp_limits.proofs.Operands.{curve_period}
use Rattle.upp_normal.specs.Ahead.{HasWindow}
use Rattle.upp_normal.proofs.GaugeRises.{curve_earlier}
use Rattle.upp_normal.proofs.UnrollSteps.{ext_cases}
use Rattle.upp_normal.proofs.AnswerRoom.{wide_narrow}
use Rattle.curve_call.specs.Times.{OneLaterFits}
use Rattle.curve_call.proofs.CurveTimes.{one_later}
use Rattle.curve_call.specs.declared.bounds.Bounds.{Bounds}
use Rattle.curve_call.specs.Bounds.{own_or}
use Rattle.curve_call.specs.Levels.{level_curve}
use Rattle.curve_call.specs.Compared.{IsLookedAt}
use Rattle.curve_call.proofs.EitherOrder.{apart}
use Rattle.curve_call.proofs.OwnPeriods.{limited_less, own_period_is}
use Rattle.curve_call.proofs.RateRises.{rate_rise}
use Rattle.curve_call.proofs.MostAbove.{own_repeats, finite_rate, not_falling, rates_order}
use Rattle.curve_conv.specs.declared.extremes.Extremes.{Extremes}
use Rattle.curve_conv.specs.Late.{IsLateAfter, IsLateCall}
use Rattle.curve_conv.specs.LateBounds.{AreCurveExtremes, most_gap, IsLateBounds, IsSlowerBounds}
use Rattle.curve_conv.specs.Scans.{sizes_in}
use Rattle.curve_conv.proofs.FoundGaps.{number_found}
use Rattle.curve_conv.proofs.LateEnough.{Turning, late_enough}
use Rattle.curve_conv.proofs.LateNumbers.{late_times, none_early}
use Rattle.curve_conv.proofs.Orders.{of_first, of_second, of_equal}

-- ---- each curve, looked at from when on it repeats
looked_from : (z : Sizes) (x d end : ℚ) (c : SpecCurve) → HasWindow z end c → Whole z.dt x → Whole z.dt d → int (pos 0) ≤ℚ x → int (pos 0) <ℚ d → x +ℚ d ≤ℚ end → steady c ≤ℚ x → IsWholePeriods c.tail d
    → IsLookedAt z x d c
looked_from z x d end c W whole on low some early by periods = record {
  limited = limited_less z end (x +ℚ d) W.limited (whole_add z.dt x d whole on) (with2 x d (λ c. omega (arith, c.le, c.lt, c.same))) early;
  start = whole;
  some = some;
  curve = record { curve = W.curve; stands = curve_earlier z (x +ℚ d) end c (curve_period c W.curve) early W.stands; steady_by = by; periods = periods };
}

pub slow_looked : (slow fast : SpecCurve) (from d end : ℚ) → IsLateCall slow fast from d end → IsLookedAt (sizes_in slow fast end) (steady slow) d slow
slow_looked slow fast from d end C =
    let T = late_times slow fast from d end C in
    looked_from (sizes_in slow fast end) (steady slow) d end slow C.scan.first T.first.whole C.whole T.first.nonneg C.some (early (steady slow) (steady fast) d from end T.second.nonneg C.some C.from_is C.end_is)
    (le_refl (steady slow)) C.first
  where
    early : (x y d from end : ℚ) → int (pos 0) ≤ℚ y → int (pos 0) <ℚ d → from ≡ x +ℚ y +ℚ d → end ≡ from +ℚ d → x +ℚ d ≤ℚ end
    early x y d from end a b e f = with5 x y d from end (λ c. omega (arith, c.le, c.lt, c.same))

pub fast_looked : (slow fast : SpecCurve) (from d end : ℚ) → IsLateCall slow fast from d end → IsLookedAt (sizes_in slow fast end) (steady fast) d fast
fast_looked slow fast from d end C =
    let T = late_times slow fast from d end C in
    looked_from (sizes_in slow fast end) (steady fast) d end fast C.scan.second T.second.whole C.whole T.second.nonneg C.some (early (steady slow) (steady fast) d from end T.first.nonneg C.some C.from_is C.end_is)
    (le_refl (steady fast)) C.second
  where
    early : (x y d from end : ℚ) → int (pos 0) ≤ℚ x → int (pos 0) <ℚ d → from ≡ x +ℚ y +ℚ d → end ≡ from +ℚ d → y +ℚ d ≤ℚ end
    early x y d from end a b e f = with5 x y d from end (λ c. omega (arith, c.le, c.lt, c.same))

pub begins_early : (slow fast : SpecCurve) (from d end : ℚ) → IsLateCall slow fast from d end → OneLaterFits slow × OneLaterFits fast
begins_early slow fast from d end C =
    let z = sizes_in slow fast end in
    let T = late_times slow fast from d end C in
    let V = C.scan.first in
    let W = C.scan.second in
    let A = V.limited in
    (one_later z end slow A.sizes (wide_narrow z end A) V.curve V.stands T.first.early, one_later z end fast A.sizes (wide_narrow z end A) W.curve W.stands T.second.early)

-- ---- one division
pub over_up : (x e q : ℚ) (m n : ℕ) → int (pos 0) <ℚ e → q ≡ x /ℚ e → m ≡ size_up q → m ≤ n → x ≤ℚ int (pos n) *ℚ e
over_up x e q m n some h k l =
    let up : x ≤ℚ int (pos m) *ℚ e = (div_le x e (int (pos m)) some).0 (subst (λ y. y ≤ℚ int (pos m)) h (subst (λ i. q ≤ℚ int (pos i)) (sym k) (size_up_within q).high)) in
    le_trans up (mul_le_mul_right e (le_of_lt some) (nat_le m n l))

pub over_one : (x e : ℚ) → x ≤ℚ e → x ≤ℚ int (pos (0 + 1)) *ℚ e
over_one x e h = subst (λ y. x ≤ℚ y) (sym (one_mul e)) h

-- ---- enough periods
pub slow_rate : (f g : SpecCurve) → rate f <ₑ rate g → (r : ℚ) × (rate f ≡ Fin r)
slow_rate f g h = elim (ext_cases (rate f)) [ inl e ↦ absurd (none (rate g) (subst (λ x. x <ₑ rate g) e h)) | inr r ↦ r ]
  where
    none : (y : Ext) → Inf <ₑ y → ⊥
    none Inf k = k
    none (Fin y) k = k

are_turning : (slow fast : SpecCurve) (from d end : ℚ) (e : Extremes) → IsLateCall slow fast from d end → ¬ (rate slow <ₑ rate (level_curve (int (pos 0)))) → AreCurveExtremes slow fast d e
    → Turning (value_at slow) (value_at fast) (steady slow) (own_or d slow) (steady fast) (own_or d fast) d (rise_over slow (own_or d slow)) (rise_over fast (own_or d fast)) (rise_over slow d) (rise_over fast d)
are_turning slow fast from d end e C up E =
    let z = sizes_in slow fast end in
    let F = slow_looked slow fast from d end C in
    let G = fast_looked slow fast from d end C in
    let (r, i) = slow_rate slow fast C.slower in
    let (s, k) = finite_rate z (steady fast) d fast G record { at = steady fast; late = le_refl (steady fast); value = e.fast_start; is = E.fast_start } in
    record {
      first_some = (own_period_is z (steady slow) d slow F).some;
      second_some = (own_period_is z (steady fast) d fast G).some;
      first = own_repeats z (steady slow) d slow F;
      second = own_repeats z (steady fast) d fast G;
      low = r;
      high = s;
      first_rate = rate_rise slow (own_or d slow) r i;
      second_rate = rate_rise fast (own_or d fast) s k;
      first_rise = rate_rise slow d r i;
      second_rise = rate_rise fast d s k;
      rises = not_falling slow r i up;
      slower = rates_order slow fast r s i k C.slower;
    }

after_enough : (slow fast : SpecCurve) (from d end : ℚ) (e : Extremes) (n : ℕ) → IsLateCall slow fast from d end → ¬ (rate slow <ₑ rate (level_curve (int (pos 0)))) → AreCurveExtremes slow fast d e
    → most_gap e ≤ℚ int (pos (n + 1)) *ℚ (rise_over fast d -ℚ rise_over slow d) → IsLateAfter slow fast from d n
after_enough slow fast from d end e n C up E bound = λ t h l.
    let T = late_times slow fast from d end C in
    late_enough (value_at slow) (value_at fast) (steady slow) (own_or d slow) (steady fast) (own_or d fast) d (rise_over slow (own_or d slow)) (rise_over fast (own_or d fast)) (rise_over slow d) (rise_over fast d) e
    (int (pos (n + 1))) t T.first.nonneg T.second.nonneg (mul_nonneg (nat_nonneg (n + 1)) (le_of_lt C.some)) (are_turning slow fast from d end e C up E) E bound
    (past (steady slow) (steady fast) d from t (int (pos n) *ℚ d) (int (pos (n + 1)) *ℚ d) C.from_is (more_periods n d) h)
  where
    past : (x y d from t v w : ℚ) → from ≡ x +ℚ y +ℚ d → w ≡ v +ℚ d → from +ℚ v ≤ℚ t → x +ℚ y +ℚ w ≤ℚ t
    past x y d from t v w start more late = with7 x y d from t v w (λ c. omega (arith, c.le, c.lt, c.same))

-- ---- the bounds
pub bounds_none : (slow fast : SpecCurve) (from d x : ℚ) (zero : ℚ) → zero ≡ int (pos 0) → x ≡ steady slow → ¬ (zero <ℚ x) → IsLateBounds slow fast from d record { low = 0; high = 0 }
bounds_none slow fast from d x zero e f none =
    let N = none_early slow fast from d (λ h. none (subst (λ y. y <ℚ x) (sym e) (subst (λ y. int (pos 0) <ℚ y) (sym f) h))) in
    record { number = 0; is = N; low = omega arith; high = omega arith; late = N.late }

pub bounds_after : (slow fast : SpecCurve) (from d end : ℚ) (n : ℕ) → IsLateCall slow fast from d end → IsLateAfter slow fast from d n → IsLateBounds slow fast from d record { low = 0; high = n }
bounds_after slow fast from d end n C here =
    let M = number_found slow fast from d end n C here in
    record { number = M.number; is = M.is; low = omega arith; high = M.most; late = M.late }

pub far_number_is : (slow fast : SpecCurve) (from d end : ℚ) (e : Extremes) (gap lead : ℚ) (r : Option ℕ) → IsLateCall slow fast from d end → ¬ (rate slow <ₑ rate (level_curve (int (pos 0))))
    → AreCurveExtremes slow fast d e → gap ≡ most_gap e → lead ≡ rise_over fast d -ℚ rise_over slow d → IfSome r (λ n. gap ≤ℚ int (pos (n + 1)) *ℚ lead) → IfSome r (IsLateAfter slow fast from d)
far_number_is slow fast from d end e gap lead None C up E h k bound = tt
far_number_is slow fast from d end e gap lead (Some n) C up E h k bound =
    after_enough slow fast from d end e n C up E (subst (λ x. x ≤ℚ int (pos (n + 1)) *ℚ (rise_over fast d -ℚ rise_over slow d)) h (subst (λ y. gap ≤ℚ int (pos (n + 1)) *ℚ y) k bound))

-- ---- for either order of the rates
pub bounds_first : (f g : SpecCurve) (from d : ℚ) (r : Option Bounds) → rate f <ₑ rate g → IfSome r (IsLateBounds f g from d) → IfSome r (IsSlowerBounds f g from d)
bounds_first f g from d None h m = tt
bounds_first f g from d (Some b) h m = record {
  number = m.number;
  is = of_first f g from d (Some m.number) h m.is;
  low = m.low;
  high = m.high;
  late = record { first = λ l. m.late; second = λ l. absurd (apart (rate f) (rate g) h l) };
}

pub bounds_second : (f g : SpecCurve) (from d : ℚ) (r : Option Bounds) → rate g <ₑ rate f → IfSome r (IsLateBounds g f from d) → IfSome r (IsSlowerBounds f g from d)
bounds_second f g from d None h m = tt
bounds_second f g from d (Some b) h m = record {
  number = m.number;
  is = of_second f g from d (Some m.number) h m.is;
  low = m.low;
  high = m.high;
  late = record { first = λ l. absurd (apart (rate f) (rate g) l h); second = λ l. m.late };
}

pub bounds_equal : (f g : SpecCurve) (from d : ℚ) → ¬ (rate f <ₑ rate g) → ¬ (rate g <ₑ rate f) → IsSlowerBounds f g from d record { low = 0; high = 0 }
bounds_equal f g from d h k =
    let N = of_equal f g from d h k in
    record { number = 0; is = N; low = omega arith; high = omega arith; late = N.late }
