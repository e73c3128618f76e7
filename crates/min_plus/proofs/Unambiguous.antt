-- Two functions have one horizontal and one vertical deviation.
use Rattle.std.specs.Prelude.{◌≡◌}
use Rattle.rational.specs.Rational.{ℚ}
use Rattle.rational.specs.Extended.{Ext, ◌≤ₑ◌}
use Rattle.rational.specs.declared.Extended.TheVariants.{Fin}
use Rattle.rational.proofs.Bounds.{infimum_unique, supremum_unique, smallest}
use Rattle.rational.proofs.ExtendedOrder.{antisym_ext, same_le_ext, le_ext_trans}
use Rattle.min_plus.specs.Functions.{Time, FiniteTime}
use Rattle.min_plus.specs.Deviations.{Lag, IsHorizontalDeviation, DeviationsAreUnique}

lags_same : (f g : ℚ → Ext) (x y : Ext) (A : IsHorizontalDeviation f g x) (B : IsHorizontalDeviation f g y) (t : Time) → A.lag t ≡ B.lag t
lags_same f g x y A B t = infimum_unique {I = Lag f g t.at} (λ a. Fin a.after) (A.lag t) (B.lag t) (A.is_lag t) (B.is_lag t)

at_most : (f g : ℚ → Ext) (x y : Ext) → IsHorizontalDeviation f g x → IsHorizontalDeviation f g y → x ≤ₑ y
at_most f g x y A B = smallest {I = Time} A.lag x y A.is (λ t. le_ext_trans (A.lag t) (B.lag t) y (same_le_ext (lags_same f g x y A B t)) (B.is.above t))

pub deviations_are_unique : DeviationsAreUnique
deviations_are_unique f g x y = (
  λ A B. antisym_ext x y (at_most f g x y A B) (at_most f g y x B A),
  λ A B. supremum_unique {I = FiniteTime g} (λ t. _) x y A B,
)
