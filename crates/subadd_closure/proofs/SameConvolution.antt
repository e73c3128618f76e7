-- A function is subadditive exactly where it is the lesser of itself and its convolution with itself.
use Rattle.std.specs.Prelude.{◌≡◌}
use Rattle.std.proofs.Common.{arith, sym, refl, ◌∙◌, subst}
use Rattle.rational.specs.Rational.{ℚ, ◌+ℚ◌, ◌≤ℚ◌}
use Rattle.rational.specs.Extended.{Ext, ◌≤ₑ◌, ◌+ₑ◌}
use Rattle.rational.proofs.Linear.{with2}
use Rattle.rational.proofs.Bounds.{greatest}
use Rattle.rational.proofs.ExtendedOrder.{le_ext_trans, min_right, min_ext_of_le}
use Rattle.min_plus.specs.Functions.{zero_q}
use Rattle.min_plus.specs.Pointwise.{IsMinimum}
use Rattle.min_plus.specs.Convolution.{Split, IsConvolution, IsSubadditive}

pub subadditive_where_same : (f c d : ℚ → Ext) → ((t : ℚ) → zero_q ≤ℚ t → IsConvolution f f t (c t))
    → ((t : ℚ) → zero_q ≤ℚ t → IsMinimum f c t (d t)) → ((t : ℚ) → zero_q ≤ℚ t → d t ≡ f t) → IsSubadditive f
subadditive_where_same f c d conv low same s u p q =
    let r : zero_q ≤ℚ s +ℚ u = with2 s u (λ c. omega (arith, c.le, c.lt, c.same)) in
    let m : Split (s +ℚ u) = record { first = s; second = u; first_nonneg = p; second_nonneg = q; whole = refl } in
    le_ext_trans (f (s +ℚ u)) (c (s +ℚ u)) (f s +ₑ f u)
    (subst (λ z. z ≤ₑ c (s +ℚ u)) (sym (low (s +ℚ u) r) ∙ same (s +ℚ u) r) (min_right (f (s +ℚ u)) (c (s +ℚ u))))
    ((conv (s +ℚ u) r).below m)

pub same_where_subadditive : (f c d : ℚ → Ext) → ((t : ℚ) → zero_q ≤ℚ t → IsConvolution f f t (c t))
    → ((t : ℚ) → zero_q ≤ℚ t → IsMinimum f c t (d t)) → IsSubadditive f → (t : ℚ) → zero_q ≤ℚ t → d t ≡ f t
same_where_subadditive f c d conv low sub t r =
    low t r ∙ min_ext_of_le (f t) (c t)
    (greatest (λ (m : Split t). f m.first +ₑ f m.second) (c t) (f t) (conv t r)
    (λ m. subst (λ z. f z ≤ₑ f m.first +ₑ f m.second) m.whole (sub m.first m.second m.first_nonneg m.second_nonneg)))
