-- The least number of periods, from the gap over one period and from what the faster curve gains in one.
use Rattle.std.specs.Prelude.{◌≡◌, ℕ, pos, ◌≤◌}
use Rattle.std.proofs.Common.{arith, sym, ◌∙◌, refl, subst, inl, inr}
use Rattle.rational.specs.Rational.{ℚ, ◌+ℚ◌, ◌-ℚ◌, ◌*ℚ◌, ◌/ℚ◌, ◌≤ℚ◌, ◌<ℚ◌, int, neg_ℚ}
use Rattle.rational.specs.Ratio.{IsSmall, SumFits}
use Rattle.rational.specs.Grid.{Whole}
use Rattle.rational.specs.Gauge.{size_up}
use Rattle.rational.specs.Extended.{Ext, ◌≤ₑ◌, ◌<ₑ◌, ◌+ₑ◌}
use Rattle.rational.specs.declared.Extended.TheVariants.{Fin, Inf}
use Rattle.rational.proofs.Linear.{with1, with2}
use Rattle.rational.proofs.Laws.{le_or_lt, le_refl, le_trans, le_of_lt, lt_le_trans, not_zero, mul_lt_mul_right, mul_nonneg, zero_mul}
use Rattle.rational.proofs.Integers.{nat_nonneg}
use Rattle.rational.proofs.Quotients.{div_le, div_nonneg}
use Rattle.rational.proofs.Grid.{whole_sub, whole_neg, within_nonneg, within_neg}
use Rattle.rational.proofs.ExtendedOrder.{same_le_ext, finite_below, finite_sum, le_ext_trans}
use Rattle.upp_curve.specs.Curve.{SpecCurve, value_at}
use Rattle.upp_curve.specs.Curves.{IsCurve}
use Rattle.upp_curve.specs.Steady.{Repeats, steady, rise_over, rate}
use Rattle.upp_limits.specs.Periods.{periods_after}
use Rattle.upp_limits.specs.Limits.{Sizes}
use Rattle.upp_limits.specs.Sized.{grid_of, times_largest}
use Rattle.upp_normal.specs.Operand.{AreLimited}
use Rattle.upp_limits.specs.Windows.{IsBelowFor, IsLeast}
use Rattle.upp_normal.specs.Ahead.{HasWindow, IsTimeIn, IsGridValue, AnswerValue}
use Rattle.upp_limits.proofs.CommonDen.{size_up_within, size_up_least}
use Rattle.upp_limits.proofs.NarrowSizes.{small_number, small_sum}
use Rattle.upp_curve.proofs.Steady.{steady_rule}
use Rattle.upp_normal.proofs.StretchSizes.{times_fit, small_quotient}
use Rattle.curve_call.specs.declared.gaps.Gap.{Gap}
use Rattle.curve_call.specs.declared.gaps.Gap.TheVariants.{NoTime, Never, Is}
use Rattle.curve_call.specs.Gaps.{InWindow, IsWithin, IsEndless, IsLargest, IsGapUntil}
use Rattle.curve_call.specs.GapSteps.{IsGapValue}
use Rattle.curve_call.specs.Compared.{RepeatsIn, AreCompared, IsBelowLate}
use Rattle.curve_call.specs.Bounds.{IsFiniteLate}
use Rattle.curve_call.proofs.Shifts.{below_in, below_out, largest_bounds, endless_bounds, same_least, least_zero}
use Rattle.curve_call.proofs.GapParts.{within_none}
use Rattle.curve_call.proofs.RateRises.{rate_rise, infinite_value, has_window, from_low}
use Rattle.curve_call.proofs.RiseSizes.{rise_stands}
use Rattle.upp_normal.proofs.UnrollSteps.{ext_cases}
use Rattle.upp_normal.proofs.AnswerRoom.{wide_narrow, value_difference_stands}
use Rattle.upp_curve.proofs.SteadyTimes.{rank_early}

-- ---- the number

pub number_zero : (q e : ℚ) → q ≤ℚ int (pos 0) → IsLeast (λ k. q ≤ℚ int (pos k) *ℚ e) 0
number_zero q e h = least_zero (λ k. q ≤ℚ int (pos k) *ℚ e) (subst (λ y. q ≤ℚ y) (sym (zero_mul e)) h)

pub number_least : (q e : ℚ) → int (pos 0) <ℚ q → int (pos 0) <ℚ e → IsLeast (λ k. q ≤ℚ int (pos k) *ℚ e) (size_up (q /ℚ e))
number_least q e some lead = record {
  meets = (div_le q e (int (pos (size_up (q /ℚ e)))) lead).0 (size_up_within (q /ℚ e)).high;
  least = λ i l h.
      let bound : q /ℚ e ≤ℚ int (pos i) = (div_le q e (int (pos i)) lead).1 h in
      let k = size_up_least i (q /ℚ e) (within_nonneg (int (pos i)) (q /ℚ e) (div_nonneg q e lead (le_of_lt some)) bound) in
      absurd (omega (arith, k, l));
}

-- ---- a time at which both are finite
pub finite_less : (x y : Ext) → x <ₑ y → (v : ℚ) × (x ≡ Fin v)
finite_less Inf y h = absurd h
finite_less (Fin v) y h = (v, refl)

pub record BothFinite (f g : ℚ → Ext) (from end : ℚ) : Type 0 where
  pub at : ℚ
  pub among : InWindow from end at
  pub first : ℚ
  pub first_is : f at ≡ Fin first
  pub second : ℚ
  pub second_is : g at ≡ Fin second

pub both_finite : (f g : ℚ → Ext) (from end q : ℚ) → IsLargest (InWindow from end) f g q → BothFinite f g from end
both_finite f g from end q L =
    let y = q -ℚ int (pos 1) in
    let m = L.near y (with1 q (λ c. omega (arith, c.le, c.lt, c.same))) in
    let t = m.at in
    let (v, e) = finite_less (g t +ₑ Fin y) (f t) m.more in
    let parts = finite_sum (g t) (Fin y) v e in
    let bound : f t ≤ₑ Fin (parts.0 +ℚ q) = subst (λ x. f t ≤ₑ x +ₑ Fin q) parts.2 (L.above t m.among) in
    let (w, k) = finite_below (f t) (parts.0 +ℚ q) bound in
    record { at = t; among = m.among; first = w; first_is = k; second = parts.0; second_is = parts.2 }

-- ---- what the faster one gains
pub record Lead (z : Sizes) (slow fast : SpecCurve) (d : ℚ) : Type 0 where
  pub first : IsGridValue z (rise_over slow d)
  pub second : IsGridValue z (rise_over fast d)
  pub some : int (pos 0) <ℚ rise_over fast d -ℚ rise_over slow d

pub gains : (slow fast : SpecCurve) (d : ℚ) (t v : ℚ) → IsCurve fast → int (pos 0) <ℚ d → rate slow <ₑ rate fast → steady fast ≤ℚ t → value_at fast t ≡ Fin v
    → int (pos 0) <ℚ rise_over fast d -ℚ rise_over slow d
gains slow fast d t v curve some faster late finite =
    let (r, e) = finite_less (rate slow) (rate fast) faster in
    elim (ext_cases (rate fast)) [
      | inl k ↦ absurd (same_le_ext (sym (infinite_value fast t curve k late) ∙ finite))
      | inr (s, k) ↦
          let less : r <ℚ s = subst (λ x. Fin r <ₑ x) k (subst (λ x. x <ₑ rate fast) e faster) in
          let gain : r *ℚ d <ℚ s *ℚ d = mul_lt_mul_right d some less in
          subst (λ y. int (pos 0) <ℚ y -ℚ rise_over slow d) (rate_rise fast d s k)
          (subst (λ y. int (pos 0) <ℚ s *ℚ d -ℚ y) (rate_rise slow d r e) (let x = r *ℚ d in let y = s *ℚ d in with2 x y (λ c. omega (arith, c.le, c.lt, c.same))))
    ]

pub lead_is : (z : Sizes) (from d : ℚ) (slow fast : SpecCurve) → rate slow <ₑ rate fast → AreCompared z from d slow fast → IsFiniteLate from slow → IsFiniteLate from fast → Lead z slow fast d
lead_is z from d slow fast faster C P Q =
    let F = C.first.curve in
    let G = C.second.curve in
    let V = has_window z from d slow F C.limited C.some C.first in
    let W = has_window z from d fast G C.limited C.some C.second in
    let low = from_low z from d slow F C.first in
    record {
      first = rise_stands z from d slow P.at P.value V C.start low C.some (le_trans (rank_early slow) C.first.steady_by) C.first.periods P.late P.is;
      second = rise_stands z from d fast Q.at Q.value W C.start low C.some (le_trans (rank_early fast) C.second.steady_by) C.second.periods Q.late Q.is;
      some = gains slow fast d Q.at Q.value G C.some faster (le_trans C.second.steady_by Q.late) Q.is;
    }

-- where the gap of two curves is a number, both are finite somewhere
pub largest_finite : (from end q : ℚ) (f g : SpecCurve) → IsLargest (InWindow from end) (value_at f) (value_at g) q → IsFiniteLate from f × IsFiniteLate from g
largest_finite from end q f g L =
    let B = both_finite (value_at f) (value_at g) from end q L in (
      record { at = B.at; late = B.among.start; value = B.first; is = B.first_is },
      record { at = B.at; late = B.among.start; value = B.second; is = B.second_is },
    )

-- ---- its steps fit
pub rise_small : (z : Sizes) (end y : ℚ) → AreLimited z end → IsGridValue z y → IsSmall y
rise_small z end y A R = small_number z end 3 y A.sizes (wide_narrow z end A) (omega arith) R.whole R.within

pub lead_fits : (z : Sizes) (end x y : ℚ) → AreLimited z end → IsGridValue z x → IsGridValue z y → SumFits x (neg_ℚ y)
lead_fits z end x y A R S =
    small_sum z end 3 3 x (neg_ℚ y) A.sizes (wide_narrow z end A) (omega arith) R.whole (whole_neg (grid_of z) y S.whole) R.within (within_neg (times_largest 3 z) y S.within)

six : (v : ℚ) → int (pos 3) *ℚ v +ℚ int (pos 3) *ℚ v ≡ int (pos 6) *ℚ v
six v = with1 v (λ c. omega (arith, c.le, c.lt, c.same))

pub times_small : (z : Sizes) (end q e : ℚ) (k : ℕ) → AreLimited z end → k ≤ 31 → AnswerValue z k q → AnswerValue z 6 e → int (pos 0) <ℚ e → IsSmall (q /ℚ e)
times_small z end q e k A few Q E some = small_quotient z end k 6 q e A few (omega arith) (not_zero e some) Q.whole E.whole Q.within E.within

pub gap_answer : (z : Sizes) (q : ℚ) → IsGapValue z q → AnswerValue z 6 q
gap_answer z q Q = record { whole = Q.whole; within = Q.within }

pub number_fits : (z : Sizes) (end q x y : ℚ) → AreLimited z end → IsGapValue z q → IsGridValue z x → IsGridValue z y → int (pos 0) <ℚ x -ℚ y → IsSmall (q /ℚ (x -ℚ y))
number_fits z end q x y A Q R S some = times_small z end q (x -ℚ y) 6 A (omega arith) (gap_answer z q Q) (value_difference_stands z x y R S) some

-- ---- the window
pub end_fits : (z : Sizes) (from d : ℚ) (slow fast : SpecCurve) → IsCurve slow → AreCompared z from d slow fast → SumFits from d
end_fits z from d slow fast F C =
    let low = from_low z from d slow F C.first in
    let some = C.some in
    let on : Whole z.dt d = subst (Whole z.dt) (with2 from d (λ c. omega (arith, c.le, c.lt, c.same))) (whole_sub z.dt (from +ℚ d) from C.limited.sizes.window C.start) in
    (times_fit z (from +ℚ d) from d C.limited C.start on low (with2 from d (λ c. omega (arith, c.le, c.lt, c.same))) (le_of_lt some) (with2 from d (λ c. omega (arith, c.le, c.lt, c.same)))).0

pub start_in : (z : Sizes) (from d : ℚ) (slow fast : SpecCurve) → IsCurve slow → AreCompared z from d slow fast → IsTimeIn z (from +ℚ d) from
start_in z from d slow fast F C =
    let some = C.some in
    record { whole = C.start; nonneg = from_low z from d slow F C.first; before = with2 from d (λ c. omega (arith, c.le, c.lt, c.same)) }

pub compared_window : (z : Sizes) (from d : ℚ) (slow fast : SpecCurve) → IsCurve slow → IsCurve fast → AreCompared z from d slow fast
    → HasWindow z (from +ℚ d) slow × HasWindow z (from +ℚ d) fast × IsTimeIn z (from +ℚ d) from
compared_window z from d slow fast F G C = (has_window z from d slow F C.limited C.some C.first, has_window z from d fast G C.limited C.some C.second, start_in z from d slow fast F C)

-- ---- the periods
pub repeats_from : (z : Sizes) (from d : ℚ) (c : SpecCurve) → IsCurve c → int (pos 0) <ℚ d → RepeatsIn z from d c → Repeats (value_at c) from d (rise_over c d)
repeats_from z from d c curve some R = record {
  rule = λ t h. (steady_rule c d curve.normal.raw R.periods (le_of_lt some)).rule t (le_trans R.steady_by h);
}

-- the slower is nowhere above the faster from k periods on, for a period
abbrev pub IsBelowAfter : SpecCurve → SpecCurve → ℚ → ℚ → ℕ → Type 0
IsBelowAfter slow fast from d k = IsBelowFor (value_at slow) (value_at fast) (periods_after from k d) d

abbrev IsWithinBy : SpecCurve → SpecCurve → ℚ → ℚ → ℕ → Type 0
IsWithinBy slow fast from d k = IsWithin (InWindow from (from +ℚ d)) (value_at slow) (value_at fast) (int (pos k) *ℚ (rise_over fast d -ℚ rise_over slow d))

pub after_in : (z : Sizes) (from d : ℚ) (slow fast : SpecCurve) (k : ℕ) → IsCurve slow → IsCurve fast → AreCompared z from d slow fast → IsWithinBy slow fast from d k → IsBelowAfter slow fast from d k
after_in z from d slow fast k F G C w =
    below_in (value_at slow) (value_at fast) from d (rise_over slow d) (rise_over fast d) k (le_of_lt C.some) (repeats_from z from d slow F C.some C.first) (repeats_from z from d fast G C.some C.second) w

pub after_out : (z : Sizes) (from d : ℚ) (slow fast : SpecCurve) (k : ℕ) → IsCurve slow → IsCurve fast → AreCompared z from d slow fast → IsBelowAfter slow fast from d k → IsWithinBy slow fast from d k
after_out z from d slow fast k F G C w =
    below_out (value_at slow) (value_at fast) from d (rise_over slow d) (rise_over fast d) k (le_of_lt C.some) (repeats_from z from d slow F C.some C.first) (repeats_from z from d fast G C.some C.second) w

pub least_none : (z : Sizes) (from d : ℚ) (slow fast : SpecCurve) → IsCurve slow → IsCurve fast → AreCompared z from d slow fast
    → ((t : ℚ) → InWindow from (from +ℚ d) t → value_at fast t ≡ Inf) → IsLeast (IsBelowAfter slow fast from d) 0
least_none z from d slow fast F G C none =
    least_zero (IsBelowAfter slow fast from d) (after_in z from d slow fast 0 F G C (within_none (InWindow from (from +ℚ d)) (value_at slow) (value_at fast) _ none))

pub least_endless : (z : Sizes) (from d : ℚ) (slow fast : SpecCurve) → IsCurve slow → IsCurve fast → AreCompared z from d slow fast
    → IsEndless (InWindow from (from +ℚ d)) (value_at slow) (value_at fast) → (k : ℕ) → ¬ (IsBelowAfter slow fast from d k)
least_endless z from d slow fast F G C E k w = endless_bounds (InWindow from (from +ℚ d)) (value_at slow) (value_at fast) _ E (after_out z from d slow fast k F G C w)

pub least_gap : (z : Sizes) (from d : ℚ) (slow fast : SpecCurve) (q : ℚ) (k : ℕ) → IsCurve slow → IsCurve fast → AreCompared z from d slow fast
    → IsLargest (InWindow from (from +ℚ d)) (value_at slow) (value_at fast) q → IsLeast (λ i. q ≤ℚ int (pos i) *ℚ (rise_over fast d -ℚ rise_over slow d)) k → IsLeast (IsBelowAfter slow fast from d) k
least_gap z from d slow fast q k F G C L least =
    same_least (IsBelowAfter slow fast from d) (λ i. q ≤ℚ int (pos i) *ℚ (rise_over fast d -ℚ rise_over slow d)) k
    (λ i w. (largest_bounds (InWindow from (from +ℚ d)) (value_at slow) (value_at fast) q (int (pos i) *ℚ (rise_over fast d -ℚ rise_over slow d)) L).0 (after_out z from d slow fast i F G C w))
    (λ i h. after_in z from d slow fast i F G C ((largest_bounds (InWindow from (from +ℚ d)) (value_at slow) (value_at fast) q (int (pos i) *ℚ (rise_over fast d -ℚ rise_over slow d)) L).1 h))
    least

-- ---- of which the times from one on are left out
plus_nonneg : (x : Ext) (y : ℚ) → int (pos 0) ≤ℚ y → x ≤ₑ x +ₑ Fin y
plus_nonneg Inf y h = tt
plus_nonneg (Fin x) y h = with2 x y (λ c. omega (arith, c.le, c.lt, c.same))

with_rest : (slow fast : SpecCurve) (from d soon y : ℚ) (gap : Gap) → IsBelowLate slow fast from d soon → (U : IsGapUntil from (from +ℚ d) soon (value_at slow) (value_at fast) gap) → int (pos 0) ≤ℚ y
    → IsWithin (InWindow from U.until) (value_at slow) (value_at fast) y → IsWithin (InWindow from (from +ℚ d)) (value_at slow) (value_at fast) y
with_rest slow fast from d soon y gap below U some w t i = elim (le_or_lt U.until t) [
  | inl l ↦ le_ext_trans (value_at slow t) (value_at fast t) (value_at fast t +ₑ Fin y) (below t i (U.left t record { start = l; before = i.before })) (plus_nonneg (value_at fast t) y some)
  | inr l ↦ w t record { start = i.start; before = l }
]

without_rest : (slow fast : SpecCurve) (from d soon y : ℚ) (gap : Gap) (U : IsGapUntil from (from +ℚ d) soon (value_at slow) (value_at fast) gap)
    → IsWithin (InWindow from (from +ℚ d)) (value_at slow) (value_at fast) y → IsWithin (InWindow from U.until) (value_at slow) (value_at fast) y
without_rest slow fast from d soon y gap U w t i = w t record { start = i.start; before = lt_le_trans i.before U.most }

pub until_none : (z : Sizes) (from d soon : ℚ) (slow fast : SpecCurve) → AreCompared z from d slow fast → IsBelowLate slow fast from d soon
    → IsGapUntil from (from +ℚ d) soon (value_at slow) (value_at fast) NoTime → IsLeast (IsBelowAfter slow fast from d) 0
until_none z from d soon slow fast C below U =
    let y = int (pos 0) *ℚ (rise_over fast d -ℚ rise_over slow d) in
    let some : int (pos 0) ≤ℚ y = subst (λ v. int (pos 0) ≤ℚ v) (sym (zero_mul (rise_over fast d -ℚ rise_over slow d))) (le_refl (int (pos 0))) in
    least_zero (IsBelowAfter slow fast from d)
    (after_in z from d slow fast 0 C.first.curve C.second.curve C
    (with_rest slow fast from d soon y NoTime below U some (within_none (InWindow from U.until) (value_at slow) (value_at fast) y U.is)))

pub until_endless : (z : Sizes) (from d soon : ℚ) (slow fast : SpecCurve) → AreCompared z from d slow fast → IsGapUntil from (from +ℚ d) soon (value_at slow) (value_at fast) Never
    → (k : ℕ) → ¬ (IsBelowAfter slow fast from d k)
until_endless z from d soon slow fast C U =
    let E = U.is in
    least_endless z from d slow fast C.first.curve C.second.curve C
    record { at = E.at; among = record { start = E.among.start; before = lt_le_trans E.among.before U.most }; top = E.top; value = E.value; below = E.below }

pub until_gap : (z : Sizes) (from d soon q : ℚ) (slow fast : SpecCurve) (k : ℕ) → rate slow <ₑ rate fast → AreCompared z from d slow fast → IsBelowLate slow fast from d soon
    → IsGapUntil from (from +ℚ d) soon (value_at slow) (value_at fast) (Is q) → IsLeast (λ i. q ≤ℚ int (pos i) *ℚ (rise_over fast d -ℚ rise_over slow d)) k → IsLeast (IsBelowAfter slow fast from d) k
until_gap z from d soon q slow fast k less C below U least =
    let finite = largest_finite from U.until q slow fast U.is in
    let lead = rise_over fast d -ℚ rise_over slow d in
    let some : int (pos 0) <ℚ lead = (lead_is z from d slow fast less C finite.0 finite.1).some in
    let bounds = λ (i : ℕ). largest_bounds (InWindow from U.until) (value_at slow) (value_at fast) q (int (pos i) *ℚ lead) U.is in
    same_least (IsBelowAfter slow fast from d) (λ i. q ≤ℚ int (pos i) *ℚ lead) k
    (λ i w. (bounds i).0 (without_rest slow fast from d soon (int (pos i) *ℚ lead) (Is q) U (after_out z from d slow fast i C.first.curve C.second.curve C w)))
    (λ i h. after_in z from d slow fast i C.first.curve C.second.curve C (with_rest slow fast from d soon (int (pos i) *ℚ lead) (Is q) below U (mul_nonneg (nat_nonneg i) (le_of_lt some)) ((bounds i).1 h)))
    least
