-- Whether a curve is nowhere below another, by a call on both.
use Rattle.std.specs.Prelude.{◌≡◌, ◌↔◌}
use Rattle.std.proofs.Common.{arith, sym, subst, inl, inr}
use Rattle.rational.specs.Rational.{ℚ, ◌≤ℚ◌}
use Rattle.rational.specs.Extended.{Ext, ◌≤ₑ◌, ◌<ₑ◌, ◌-ₑ◌}
use Rattle.rational.specs.declared.Extended.TheVariants.{Fin}
use Rattle.rational.proofs.Linear.{with1}
use Rattle.rational.proofs.Bounds.{smallest}
use Rattle.rational.proofs.ExtendedOrder.{le_ext_trans, le_or_lt_ext, lt_ext_not_le}
use Rattle.min_plus.specs.Functions.{zero_q, IsFinite, IsNonnegative, FiniteTime}
use Rattle.min_plus.specs.Deviations.{IsVerticalDeviation}
use Rattle.upp_curve.specs.Curve.{SpecCurve, value_at}
use Rattle.curve_lang.specs.Finding.{zero_curve}
use Rattle.curve_lang.proofs.Meant.{zero_value}

-- ---- the zero curve is nowhere above f exactly where f is nowhere below 0
below_level : (x : ℚ) → Fin zero_q -ₑ x ≤ₑ Fin zero_q → zero_q ≤ℚ x
below_level x h = with1 x (λ c. omega (arith, c.le, c.lt, c.same))

above_level : (x : ℚ) → zero_q ≤ℚ x → Fin zero_q -ₑ x ≤ₑ Fin zero_q
above_level x h = with1 x (λ c. omega (arith, c.le, c.lt, c.same))

pub tested_nonneg : (f : SpecCurve) (v : Ext) → IsFinite (value_at f) → IsVerticalDeviation (value_at zero_curve) (value_at f) v
    → (v ≤ₑ Fin zero_q) ↔ IsNonnegative (value_at f)
tested_nonneg f v finite is = (
  λ low t n.
      let (level, e) = finite t n in
      let time : FiniteTime (value_at f) = record { at = t; nonneg = n; level = level; is = e } in
      let over : value_at zero_curve t -ₑ level ≤ₑ Fin zero_q = le_ext_trans (value_at zero_curve t -ₑ level) v (Fin zero_q) (is.above time) low in
      subst (λ x. Fin zero_q ≤ₑ x) (sym e) (below_level level (subst (λ x. x -ₑ level ≤ₑ Fin zero_q) (zero_value t n) over)),
  λ nonneg. smallest {I = FiniteTime (value_at f)} (λ t. value_at zero_curve t.at -ₑ t.level) v (Fin zero_q) is
      (λ t. subst (λ x. x -ₑ t.level ≤ₑ Fin zero_q) (sym (zero_value t.at t.nonneg))
      (above_level t.level (subst (λ x. Fin zero_q ≤ₑ x) t.is (nonneg t.at t.nonneg)))),
)

pub above_is_negative : (f z : SpecCurve) (v : Ext) → IsFinite (value_at f) → z ≡ zero_curve → IsVerticalDeviation (value_at z) (value_at f) v
    → Fin zero_q <ₑ v → ¬ (IsNonnegative (value_at f))
above_is_negative f z v finite same is above nonneg =
    (lt_ext_not_le (Fin zero_q) v).0 above ((tested_nonneg f v finite (subst (λ c. IsVerticalDeviation (value_at c) (value_at f) v) same is)).1 nonneg)

pub not_above_is_nonneg : (f z : SpecCurve) (v : Ext) → IsFinite (value_at f) → z ≡ zero_curve → IsVerticalDeviation (value_at z) (value_at f) v
    → ¬ (Fin zero_q <ₑ v) → IsNonnegative (value_at f)
not_above_is_nonneg f z v finite same is low =
    (tested_nonneg f v finite (subst (λ c. IsVerticalDeviation (value_at c) (value_at f) v) same is)).0 (elim (le_or_lt_ext v (Fin zero_q)) [
      | inl l ↦ l
      | inr l ↦ absurd (low l)
    ])
