-- What a value has above another: from 0 on, finite where the first is, and rising in it.
use Rattle.std.specs.Prelude.{◌≡◌}
use Rattle.std.proofs.Common.{arith, ap, refl}
use Rattle.rational.specs.Rational.{ℚ, ◌-ℚ◌}
use Rattle.rational.specs.MinMax.{max_q}
use Rattle.rational.specs.Extended.{Ext, ◌≤ₑ◌}
use Rattle.rational.specs.declared.Extended.TheVariants.{Fin, Inf}
use Rattle.rational.proofs.Laws.{le_refl}
use Rattle.rational.proofs.Linear.{with1, with2, with3}
use Rattle.rational.proofs.MinMax.{max_q_ge_left, max_q_is_left, max_q_le, max_q_mono}
use Rattle.min_plus.specs.Functions.{zero_q}
use Rattle.min_plus.specs.Pointwise.{excess}

pub finite_excess : (v w : Ext) (x : ℚ) → v ≡ Fin x → (level : ℚ) × (excess v w ≡ Fin level)
finite_excess v Inf x e = (zero_q, refl)
finite_excess v (Fin y) x e = (max_q zero_q (x -ℚ y), ap (λ (z : Ext). excess z (Fin y)) e)

pub excess_nonneg : (v w : Ext) → Fin zero_q ≤ₑ excess v w
excess_nonneg v Inf = le_refl zero_q
excess_nonneg Inf (Fin y) = tt
excess_nonneg (Fin x) (Fin y) = max_q_ge_left zero_q (x -ℚ y)

pub excess_mono : (v w y : Ext) → v ≤ₑ w → excess v y ≤ₑ excess w y
excess_mono v w Inf h = le_refl zero_q
excess_mono v Inf (Fin y) h = tt
excess_mono Inf (Fin x) (Fin y) h = absurd h
excess_mono (Fin v) (Fin w) (Fin y) h =
    max_q_mono zero_q (v -ℚ y) zero_q (w -ℚ y) (le_refl zero_q) (with3 v w y (λ c. omega (arith, c.le, c.lt, c.same)))

-- nothing above a value from 0 on
pub excess_nothing : (v w : Ext) → v ≡ Fin zero_q → Fin zero_q ≤ₑ w → excess v w ≡ Fin zero_q
excess_nothing v Inf e h = refl
excess_nothing v (Fin y) e h =
    rw e (ap Fin (max_q_is_left zero_q (zero_q -ℚ y) (with1 y (λ c. omega (arith, c.le, c.lt, c.same)))))

-- at most the first, where both are from 0 on
pub excess_most : (v w : Ext) → Fin zero_q ≤ₑ v → Fin zero_q ≤ₑ w → excess v w ≤ₑ v
excess_most v Inf a b = a
excess_most Inf (Fin y) a b = tt
excess_most (Fin x) (Fin y) a b = max_q_le zero_q (x -ℚ y) x a (with2 x y (λ c. omega (arith, c.le, c.lt, c.same)))
