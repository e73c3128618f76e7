-- Curves that rise from a value that is not below 0, and the convolution of two that are finite.
use Rattle.std.specs.Prelude.{◌≡◌}
use Rattle.std.proofs.Common.{arith, sym, ap₂, ◌∙◌, subst}
use Rattle.rational.specs.Rational.{ℚ, ◌+ℚ◌, ◌≤ℚ◌}
use Rattle.rational.specs.Extended.{Ext, ◌≤ₑ◌, ◌+ₑ◌}
use Rattle.rational.specs.declared.Extended.TheVariants.{Fin}
use Rattle.rational.proofs.ExtendedOrder.{le_ext_trans, finite_below}
use Rattle.rational.proofs.Laws.{le_refl, le_of_lt}
use Rattle.rational.proofs.Linear.{with1}
use Rattle.min_plus.specs.Convolution.{Split}
use Rattle.min_plus.specs.Functions.{zero_q, IsFinite, IsNonnegative, IsRising}
use Rattle.min_plus.proofs.FiniteValues.{no_inf}
use Rattle.subadd_closure.specs.StartsAt.{ConvolvesFinitely}

pub rising_nonneg : (f : ℚ → Ext) (v : ℚ) → IsRising f → f zero_q ≡ Fin v → zero_q ≤ℚ v → IsNonnegative f
rising_nonneg f v R e low = λ t n.
    le_ext_trans (Fin zero_q) (f zero_q) (f t) (subst (λ x. Fin zero_q ≤ₑ x) (sym e) low)
    (R zero_q t (le_refl zero_q) n)

at_once : (t : ℚ) → zero_q ≤ℚ t → Split t
at_once t n = record {
  first = zero_q;
  second = t;
  first_nonneg = le_refl zero_q;
  second_nonneg = n;
  whole = with1 t (λ c. omega (arith, c.le, c.lt, c.same));
}

pub finite_convolves : (f g : ℚ → Ext) → IsFinite f → IsFinite g → ConvolvesFinitely f g
unfolding at_once
finite_convolves f g F G = λ t v h C e.
    let (a, first) = F zero_q (le_refl zero_q) in
    let (b, second) = G t (le_of_lt h) in
    let sum : f zero_q +ₑ g t ≡ Fin (a +ℚ b) = ap₂ (λ (x y : Ext). x +ₑ y) first second in
    let (q, is) = finite_below v (a +ℚ b) (subst (λ x. v ≤ₑ x) sum (C.below (at_once t (le_of_lt h)))) in
    no_inf (sym is ∙ e)
