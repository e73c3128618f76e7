-- What is nowhere below 0 and repeats rises by a number from 0 on, so what is that much below a value has its room.
use Rattle.std.specs.Prelude.{◌≡◌, ℕ, pos}
use Rattle.std.proofs.Common.{arith, ap, ◌∙◌, subst, inl, inr}
use Rattle.rational.specs.Rational.{ℚ, neg_ℚ, ◌+ℚ◌, ◌-ℚ◌, ◌*ℚ◌, ◌/ℚ◌, ◌≤ℚ◌, ◌<ℚ◌, int}
use Rattle.rational.specs.Extended.{Ext, ◌≤ₑ◌, ◌+ₑ◌}
use Rattle.rational.specs.declared.Extended.TheVariants.{Fin}
use Rattle.rational.proofs.Linear.{with1, with2, with3, with4}
use Rattle.rational.proofs.Integers.{nat_nonneg}
use Rattle.rational.proofs.Laws.{le_or_lt, le_refl, le_lt_trans, lt_irrefl, above, div_mul, not_zero}
use Rattle.rational.proofs.Laws.{mul_lt_mul_right, mul_neg, mul_nonneg}
use Rattle.rational.proofs.Bounds.{greatest}
use Rattle.rational.proofs.ExtendedOrder.{add_le_ext, add_zero_ext, fin_same}
use Rattle.min_plus.specs.Convolution.{IsConvolution, Split}
use Rattle.min_plus.specs.Functions.{zero_q, IsNonnegative}
use Rattle.upp_curve.specs.Steady.{Repeats}
use Rattle.upp_curve.proofs.Repeats.{repeats_times}

-- ---- a convolution of what is nowhere below 0
sum_nonneg : (x y : Ext) → Fin zero_q ≤ₑ x → Fin zero_q ≤ₑ y → Fin zero_q ≤ₑ x +ₑ y
sum_nonneg x y a b = subst (λ z. z ≤ₑ x +ₑ y) (add_zero_ext (Fin zero_q)) (add_le_ext (Fin zero_q) x (Fin zero_q) y a b)

pub convolution_nonneg : (f g : ℚ → Ext) (t : ℚ) (v : Ext) → IsNonnegative f → IsNonnegative g → IsConvolution f g t v
    → Fin zero_q ≤ₑ v
convolution_nonneg f g t v F G C =
    greatest {I = Split t} (λ s. f s.first +ₑ g s.second) v (Fin zero_q) C
    (λ s. sum_nonneg (f s.first) (g s.second) (F s.first s.first_nonneg) (G s.second s.second_nonneg))

-- ---- the rise
-- for n periods of a fall by more than a / n
falls_below : (a c : ℚ) → c <ℚ zero_q → (n : ℕ) × (a +ℚ int (pos n) *ℚ c <ℚ zero_q)
falls_below a c h =
    let down = neg_ℚ c in
    let some : zero_q <ℚ down = with1 c (λ o. omega (arith, o.le, o.lt, o.same)) in
    let (n, far) = above (a /ℚ down) in
    let less = mul_lt_mul_right down some far in
    let whole = div_mul a down (not_zero down some) in
    let turned = mul_neg (int (pos n)) c in
    (n, at a (a /ℚ down *ℚ down) (int (pos n) *ℚ down) (int (pos n) *ℚ c) less whole turned)
  where
    at : (a b x y : ℚ) → b <ℚ x → b ≡ a → x ≡ neg_ℚ y → a +ℚ y <ℚ zero_q
    at a b x y l e f = with4 a b x y (λ o. omega (arith, o.le, o.lt, o.same))

pub rise_nonneg : (f : ℚ → Ext) (from d c a : ℚ) → zero_q ≤ℚ from → zero_q ≤ℚ d → Repeats f from d c → f from ≡ Fin a
    → IsNonnegative f → zero_q ≤ℚ c
rise_nonneg f from d c a low some R e N = elim (le_or_lt zero_q c) [
  | inl h ↦ h
  | inr h ↦
      let (n, down) = falls_below a c h in
      let later = (repeats_times f from d c n some R).rule from (le_refl from) in
      let run : zero_q ≤ℚ int (pos n) *ℚ d = mul_nonneg (nat_nonneg n) some in
      let time : zero_q ≤ℚ from +ℚ int (pos n) *ℚ d = with2 from (int (pos n) *ℚ d)
      (λ o. omega (arith, o.le, o.lt, o.same)) in
      let is : f (from +ℚ int (pos n) *ℚ d) ≡ Fin (a +ℚ int (pos n) *ℚ c) =
      later ∙ ap (λ v. v +ₑ Fin (int (pos n) *ℚ c)) e in
      let up : Fin zero_q ≤ₑ Fin (a +ℚ int (pos n) *ℚ c) =
      subst (λ v. Fin zero_q ≤ₑ v) is (N (from +ℚ int (pos n) *ℚ d) time) in
      absurd (lt_irrefl zero_q (le_lt_trans up down))
]

-- ---- what is left of a value
pub left_of : (v c x : ℚ) → v -ℚ c ≡ x → v ≡ x +ℚ c
left_of v c x e = with3 v c x (λ o. omega (arith, o.le, o.lt, o.same))

pub left_is : (v c x : ℚ) → Fin v ≡ Fin (x +ℚ c) → v -ℚ c ≡ x
left_is v c x e = let same = fin_same e in with3 v c x (λ o. omega (arith, o.le, o.lt, o.same))
