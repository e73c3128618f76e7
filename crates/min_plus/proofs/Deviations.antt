-- Moved left by more than the horizontal deviation a curve is above the other.
use Rattle.std.specs.Prelude.{pos}
use Rattle.std.proofs.Common.{arith, inl, inr}
use Rattle.rational.specs.Rational.{ℚ, int, ◌+ℚ◌, ◌≤ℚ◌, ◌<ℚ◌}
use Rattle.rational.specs.Extended.{Ext, ◌≤ₑ◌}
use Rattle.rational.specs.declared.Extended.TheVariants.{Fin, Inf}
use Rattle.rational.proofs.Laws.{le_refl, le_trans, le_or_lt}
use Rattle.rational.proofs.ExtendedOrder.{le_ext_trans}
use Rattle.rational.proofs.Linear.{with2, with3}
use Rattle.min_plus.specs.Deviations.{IsLag, IsHorizontalDeviation}
use Rattle.min_plus.specs.Functions.{Time, IsRising}

abbrev pub Within : (ℚ → Ext) → (ℚ → Ext) → ℚ → Type 0
Within α γ delay = (x d : ℚ) → int (pos 0) ≤ℚ x → delay <ℚ d → α x ≤ₑ γ (x +ℚ d)

at_lag : (f g : ℚ → Ext) (x d h : ℚ) (lag : Ext) → IsRising g → int (pos 0) ≤ℚ x → IsLag f g x lag → lag ≤ₑ Fin h → h <ℚ d
    → f x ≤ₑ g (x +ℚ d)
at_lag f g x d h Inf rises on is less l = absurd less
at_lag f g x d h (Fin y) rises on is less l =
    let (later, soon) = is.near d (with3 y h d (λ c. omega (arith, c.le, c.lt, c.same))) in
    le_ext_trans (f x) (g (x +ℚ later.after)) (g (x +ℚ d)) later.reached (moved x later.after d on later.nonneg soon)
  where
    moved : (x tau d : ℚ) → int (pos 0) ≤ℚ x → int (pos 0) ≤ℚ tau → tau <ℚ d → g (x +ℚ tau) ≤ₑ g (x +ℚ d)
    moved x tau d on t_on l = rises (x +ℚ tau) (x +ℚ d) (with2 x tau (λ c. omega (arith, c.le, c.lt, c.same))) (with3 x tau d (λ c. omega (arith, c.le, c.lt, c.same)))

pub within_deviation : (f g : ℚ → Ext) (h : ℚ) → IsRising g → IsHorizontalDeviation f g (Fin h) → Within f g h
within_deviation f g h rises dev x d on l = at_lag f g x d h (dev.lag record { at = x; nonneg = on }) rises on (dev.is_lag record { at = x; nonneg = on }) (dev.is.above record { at = x; nonneg = on }) l

-- it is at least 0, since each lag is
lag_nonneg : (f g : ℚ → Ext) (x : ℚ) (lag : Ext) (h : ℚ) → IsLag f g x lag → lag ≤ₑ Fin h → int (pos 0) ≤ℚ h
lag_nonneg f g x Inf h is l = absurd l
lag_nonneg f g x (Fin y) h is l = elim (le_or_lt (int (pos 0)) y) [
  | inl on ↦ le_trans on l
  | inr m ↦
      let (later, soon) = is.near (int (pos 0)) m in
      absurd (none later.after later.nonneg soon)
]
  where
    none : (a : ℚ) → int (pos 0) ≤ℚ a → a <ℚ int (pos 0) → ⊥
    none a h k = with2 a (int (pos 0)) (λ c. omega (arith, c.le, c.lt, c.same))

pub deviation_nonneg : (f g : ℚ → Ext) (h : ℚ) → IsHorizontalDeviation f g (Fin h) → int (pos 0) ≤ℚ h
deviation_nonneg f g h dev =
    let zero : Time = record { at = int (pos 0); nonneg = le_refl (int (pos 0)) } in
    lag_nonneg f g (int (pos 0)) (dev.lag zero) h (dev.is_lag zero) (dev.is.above zero)
