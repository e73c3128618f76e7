-- Sums of times, and of a function at times.
use Rattle.std.specs.Prelude.{◌≡◌, List, [], ◌∷◌, ◌++◌}
use Rattle.std.proofs.Common.{arith, sym, ap, ◌∙◌, subst}
use Rattle.rational.specs.Rational.{ℚ, ◌+ℚ◌, ◌≤ℚ◌}
use Rattle.rational.specs.Extended.{Ext, ◌≤ₑ◌, ◌+ₑ◌}
use Rattle.rational.specs.declared.Extended.TheVariants.{Fin}
use Rattle.rational.proofs.Linear.{with2}
use Rattle.rational.proofs.Laws.{antisym}
use Rattle.rational.proofs.ExtendedOrder.{le_ext_refl, le_ext_trans, same_le_ext, add_le_ext, add_ext_assoc, add_ext_comm, zero_add_ext}
use Rattle.min_plus.specs.Functions.{zero_q}
use Rattle.min_plus.specs.Convolution.{AllNonneg, sum_of, sum_at}
use Rattle.min_plus.proofs.TimeSums.{nonneg_total}

pub append_at : (f : ℚ → Ext) (xs ys : List ℚ) → sum_at f (xs ++ ys) ≡ sum_at f xs +ₑ sum_at f ys
append_at f [] ys = sym (zero_add_ext (sum_at f ys))
append_at f (x ∷ xs) ys =
    ap (λ z. f x +ₑ z) (append_at f xs ys) ∙ sym (add_ext_assoc (f x) (sum_at f xs) (sum_at f ys))

pub append_nonneg : (xs ys : List ℚ) → AllNonneg xs → AllNonneg ys → AllNonneg (xs ++ ys)
append_nonneg [] ys n m = m
append_nonneg (x ∷ xs) ys (p, n) m = (p, append_nonneg xs ys n m)

pub total_le : (f g : ℚ → Ext) (xs : List ℚ) → AllNonneg xs → ((t : ℚ) → zero_q ≤ℚ t → f t ≤ₑ g t)
    → sum_at f xs ≤ₑ sum_at g xs
total_le f g [] n h = le_ext_refl (Fin zero_q)
total_le f g (x ∷ xs) (p, n) h =
    add_le_ext (f x) (g x) (sum_at f xs) (sum_at g xs) (h x p) (total_le f g xs n h)

-- x + (y + z) in another order
pub second_first : (x y z : Ext) → x +ₑ (y +ₑ z) ≡ y +ₑ (x +ₑ z)
second_first x y z =
    sym (add_ext_assoc x y z) ∙ ap (λ w. w +ₑ z) (add_ext_comm x y) ∙ add_ext_assoc y x z

pub sums_crossed : (x y z w : Ext) → (x +ₑ y) +ₑ (z +ₑ w) ≡ (x +ₑ z) +ₑ (y +ₑ w)
sums_crossed x y z w =
    add_ext_assoc x y (z +ₑ w) ∙ ap (λ v. x +ₑ v) (second_first y z w) ∙ sym (add_ext_assoc x z (y +ₑ w))

-- ---- 0
-- times from 0 on whose sum is 0 are all 0: with a first of them, the sum of f is at least f (0), where that is at
-- least 0
pub zero_parts : (x y : ℚ) → zero_q ≤ℚ x → zero_q ≤ℚ y → x +ℚ y ≡ zero_q → (x ≡ zero_q) × (y ≡ zero_q)
zero_parts x y h k e =
    (antisym (with2 x y (λ c. omega (arith, c.le, c.lt, c.same))), antisym (with2 x y (λ c. omega (arith, c.le, c.lt, c.same))))

pub zero_total : (f : ℚ → Ext) (xs : List ℚ) → AllNonneg xs → sum_of xs ≡ zero_q → Fin zero_q ≤ₑ f zero_q
    → Fin zero_q ≤ₑ sum_at f xs
zero_total f [] n e low = le_ext_refl (Fin zero_q)
zero_total f (x ∷ xs) (p, n) e low =
    let z = zero_parts x (sum_of xs) p (nonneg_total xs n) e in
    le_ext_trans (Fin zero_q) (Fin zero_q +ₑ Fin zero_q) (f x +ₑ sum_at f xs)
    (same_le_ext (sym (zero_add_ext (Fin zero_q))))
    (add_le_ext (Fin zero_q) (f x) (Fin zero_q) (sum_at f xs) (subst (λ w. Fin zero_q ≤ₑ f w) (sym z.0) low)
    (zero_total f xs n z.1 low))
