-- The gap over a window that reaches a period past the time from which on both curves repeat is the gap over all times.
use Rattle.std.specs.Prelude.{◌≡◌, pos}
use Rattle.std.proofs.Common.{arith, sym, ◌∙◌, subst, inl, inr}
use Rattle.rational.specs.Rational.{ℚ, ◌+ℚ◌, ◌-ℚ◌, ◌*ℚ◌, ◌≤ℚ◌, ◌<ℚ◌, int}
use Rattle.rational.specs.Whole.{periods}
use Rattle.rational.specs.Extended.{Ext, ◌≤ₑ◌, ◌<ₑ◌, ◌+ₑ◌, ◌-ₑ◌}
use Rattle.rational.specs.declared.Extended.TheVariants.{Fin, Inf}
use Rattle.rational.proofs.Linear.{with2, with3, with4}
use Rattle.rational.proofs.Laws.{le_or_lt, le_refl, le_trans, le_of_lt, le_of_not_lt, mul_le_mul, mul_le_mul_right, sub_add}
use Rattle.rational.proofs.Integers.{nat_nonneg}
use Rattle.rational.proofs.Whole.{periods_low, periods_high}
use Rattle.rational.proofs.Grid.{whole_int}
use Rattle.rational.proofs.ExtendedOrder.{add_le_ext, same_le_ext}
use Rattle.upp_curve.specs.Curve.{SpecCurve, value_at}
use Rattle.min_plus.specs.Functions.{IsFinite}
use Rattle.upp_curve.specs.Steady.{Repeats, rise_over, rate}
use Rattle.upp_limits.specs.Limits.{Sizes}
use Rattle.min_plus.specs.Deviations.{IsVerticalDeviation}
use Rattle.upp_normal.specs.Ahead.{HasWindow, IsTimeIn}
use Rattle.curve_call.specs.Gaps.{InWindow, IsWithin, IsEndless, IsLargest}
use Rattle.curve_call.specs.Compared.{RepeatsIn, AreCompared}
use Rattle.curve_call.proofs.Shifts.{later_value}
use Rattle.curve_call.proofs.RateRises.{rate_rise, infinite_value, from_low}
use Rattle.upp_normal.proofs.UnrollSteps.{ext_cases}
use Rattle.curve_call.proofs.LeastNumber.{repeats_from, compared_window}
use Rattle.upp_curve.proofs.Rules.{swap_ext}

-- ---- later times add nothing

pub dominated : (f g : ℚ → Ext) (from d a b q : ℚ) → int (pos 0) <ℚ d → Repeats f from d a → Repeats g from d b → a ≤ℚ b → int (pos 0) ≤ℚ from
    → IsWithin (InWindow (int (pos 0)) (from +ℚ d)) f g q → (t : ℚ) → int (pos 0) ≤ℚ t → f t ≤ₑ g t +ₑ Fin q
dominated f g from d a b q some F G less low within t h = elim (le_or_lt from t) [
  | inl l ↦ late l
  | inr l ↦ within t record { start = h; before = with3 t from d (λ c. omega (arith, c.le, c.lt, c.same)) }
]
  where
    late : from ≤ℚ t → f t ≤ₑ g t +ₑ Fin q
    late l =
        let n = periods from d t in
        let N = int (pos n) in
        let y = N *ℚ d in
        let u = t -ℚ y in
        let first = periods_low from d t some l in
        let last = periods_high from d t some in
        let u_low : from ≤ℚ u = with3 from t y (λ c. omega (arith, c.le, c.lt, c.same)) in
        let u_high : u <ℚ from +ℚ d = with4 from t y d (λ c. omega (arith, c.le, c.lt, c.same)) in
        let early : f u ≤ₑ g u +ₑ Fin q = within u record { start = le_trans low u_low; before = u_high } in
        let more : N *ℚ a ≤ℚ N *ℚ b = mul_le_mul N (nat_nonneg n) less in
        let both : f u +ₑ Fin (N *ℚ a) ≤ₑ (g u +ₑ Fin q) +ₑ Fin (N *ℚ b) = add_le_ext (f u) (g u +ₑ Fin q) (Fin (N *ℚ a)) (Fin (N *ℚ b)) early more in
        let turned : f u +ₑ Fin (N *ℚ a) ≤ₑ (g u +ₑ Fin (N *ℚ b)) +ₑ Fin q = subst (λ v. f u +ₑ Fin (N *ℚ a) ≤ₑ v) (swap_ext (g u) q (N *ℚ b)) both in
        subst (λ s. f s ≤ₑ g s +ₑ Fin q) (sub_add t y)
        (subst (λ v. v ≤ₑ g (u +ℚ y) +ₑ Fin q) (sym (later_value f from d a u n (le_of_lt some) F u_low))
        (subst (λ v. f u +ₑ Fin (N *ℚ a) ≤ₑ v +ₑ Fin q) (sym (later_value g from d b u n (le_of_lt some) G u_low)) turned))

-- ---- the rises over a period
finite_rate : (z : Sizes) (from d : ℚ) (c : SpecCurve) → RepeatsIn z from d c → IsFinite (value_at c) → rate c ≡ Inf → ⊥
finite_rate z from d c R finite e =
    let (v, k) = finite from (from_low z from d c R.curve R) in
    same_le_ext (sym (infinite_value c from R.curve e R.steady_by) ∙ k)

pub no_more_rise : (z : Sizes) (from d : ℚ) (f g : SpecCurve) → AreCompared z from d f g → IsFinite (value_at f) → IsFinite (value_at g) → ¬ (rate g <ₑ rate f) → rise_over f d ≤ℚ rise_over g d
no_more_rise z from d f g C first second slow = elim (ext_cases (rate f)) [
  | inl e ↦ absurd (finite_rate z from d f C.first first e)
  | inr (r, e) ↦ elim (ext_cases (rate g)) [
    | inl k ↦ absurd (finite_rate z from d g C.second second k)
    | inr (s, k) ↦
        let less : r ≤ℚ s = le_of_not_lt (λ h. slow (subst (λ x. x <ₑ rate f) (sym k) (subst (λ x. Fin s <ₑ x) (sym e) h))) in
        let more : r *ℚ d ≤ℚ s *ℚ d = mul_le_mul_right d (le_of_lt C.some) less in
        subst (λ x. x ≤ℚ rise_over g d) (rate_rise f d r e) (subst (λ x. r *ℚ d ≤ℚ x) (rate_rise g d s k) more)
  ]
]

-- ---- the supremum
below_level : (x : Ext) (v q : ℚ) → x ≤ₑ Fin v +ₑ Fin q → x -ₑ v ≤ₑ Fin q
below_level Inf v q h = absurd h
below_level (Fin x) v q h = with3 x v q (λ c. omega (arith, c.le, c.lt, c.same))

above_level : (x : Ext) (v y : ℚ) → Fin v +ₑ Fin y <ₑ x → Fin y <ₑ x -ₑ v
above_level Inf v y h = tt
above_level (Fin x) v y h = with3 x v y (λ c. omega (arith, c.le, c.lt, c.same))

pub vertical_is : (z : Sizes) (from d : ℚ) (f g : SpecCurve) (q : ℚ) → AreCompared z from d f g → IsFinite (value_at f) → IsFinite (value_at g) → ¬ (rate g <ₑ rate f)
    → IsLargest (InWindow (int (pos 0)) (from +ℚ d)) (value_at f) (value_at g) q → IsVerticalDeviation (value_at f) (value_at g) (Fin q)
vertical_is z from d f g q C first second slow L =
    let less = no_more_rise z from d f g C first second slow in
    let F = repeats_from z from d f C.first.curve C.some C.first in
    let G = repeats_from z from d g C.second.curve C.some C.second in
    let low = from_low z from d f C.first.curve C.first in
    record {
      above = λ i. below_level (value_at f i.at) i.level q
          (subst (λ v. value_at f i.at ≤ₑ v +ₑ Fin q) i.is (dominated (value_at f) (value_at g) from d (rise_over f d) (rise_over g d) q C.some F G less low L.above i.at i.nonneg));
      near = λ y l.
          let m = L.near y l in
          let (v, e) = second m.at m.among.start in
          (record { at = m.at; nonneg = m.among.start; level = v; is = e }, above_level (value_at f m.at) v y (subst (λ w. w +ₑ Fin y <ₑ value_at f m.at) e m.more));
    }

-- ---- finite curves have a gap that is a number
pub some_time : (g : ℚ → Ext) (end : ℚ) → int (pos 0) <ℚ end → IsFinite g → ((t : ℚ) → InWindow (int (pos 0)) end t → g t ≡ Inf) → ⊥
some_time g end some finite none =
    let zero = int (pos 0) in
    let (v, e) = finite zero (le_refl zero) in
    same_le_ext (sym (none zero record { start = le_refl zero; before = some }) ∙ e)

pub never_endless : (f g : ℚ → Ext) (end : ℚ) → IsFinite f → IsEndless (InWindow (int (pos 0)) end) f g → ⊥
never_endless f g end finite E =
    let (v, e) = finite E.at E.among.start in
    same_le_ext (sym E.top ∙ e)

-- ---- the window from 0 on
pub whole_window : (z : Sizes) (from d : ℚ) (f g : SpecCurve) → AreCompared z from d f g
    → HasWindow z (from +ℚ d) f × HasWindow z (from +ℚ d) g × IsTimeIn z (from +ℚ d) (int (pos 0)) × (int (pos 0) <ℚ from +ℚ d)
whole_window z from d f g C =
    let W = compared_window z from d f g C.first.curve C.second.curve C in
    let low = from_low z from d f C.first.curve C.first in
    let some = C.some in
    let end : int (pos 0) <ℚ from +ℚ d = with2 from d (λ c. omega (arith, c.le, c.lt, c.same)) in
    (W.0, W.1, record { whole = whole_int z.dt (pos 0); nonneg = le_refl (int (pos 0)); before = end }, end)
