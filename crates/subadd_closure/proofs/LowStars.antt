-- A star, a closure, and a lattice, is subadditive; a star, and a lattice, is at most 0 at 0.
use Rattle.std.specs.Prelude.{◌≡◌, ℕ, ◌+◌, pos, List, [], ◌∷◌, ◌++◌}
use Rattle.std.proofs.Common.{sym, refl, ap, ap₂, ◌∙◌}
use Rattle.rational.specs.Rational.{ℚ, ◌+ℚ◌, ◌*ℚ◌, ◌≤ℚ◌, ◌<ℚ◌, int}
use Rattle.rational.specs.Extended.{Ext, ◌≤ₑ◌, ◌+ₑ◌}
use Rattle.rational.specs.declared.Extended.TheVariants.{Fin, Inf}
use Rattle.rational.specs.Families.{sums}
use Rattle.rational.proofs.Bounds.{greatest, infimum_sum}
use Rattle.rational.proofs.ExtendedOrder.{fin_same, le_ext_trans, le_inf, same_le_ext}
use Rattle.rational.proofs.Laws.{add_mul, le_refl, zero_mul}
use Rattle.min_plus.specs.Functions.{zero_q}
use Rattle.min_plus.specs.Convolution.{Parts, sum_of, sum_at, IsSubadditive, IsSubadditiveClosure}
use Rattle.min_plus.proofs.TimeSums.{append_sum, nonneg_sum}
use Rattle.upp_curve.specs.Curve.{value_at}
use Rattle.upp_curve.proofs.Rules.{int_add}
use Rattle.min_plus.specs.closure_laws.ClosureLaws.{IsLattice}
use Rattle.min_plus.specs.closure_laws.Star.{Times, AreStars}
use Rattle.min_plus.proofs.closure_laws.TimeLists.{append_at, append_nonneg}
use Rattle.subadd_closure.specs.Lattices.{lattice_curve}
use Rattle.subadd_closure.proofs.LatticeCurves.{lattice_values}

-- the sum of two lists of times
both_sum : (xs ys : List ℚ) (s u : ℚ) → sum_of xs ≡ s → sum_of ys ≡ u → sum_of (xs ++ ys) ≡ s +ℚ u
both_sum xs ys s u a b = append_sum xs ys ∙ ap (λ z. z +ℚ sum_of ys) a ∙ ap (λ z. s +ℚ z) b

pub stars_subadditive : (f F : ℚ → Ext) → AreStars f F → IsSubadditive F
stars_subadditive f F stars s u n m =
    greatest (sums (λ (p : Times s). sum_at f p.times) (λ (q : Times u). sum_at f q.times)) (F s +ₑ F u) (F (s +ℚ u))
    (infimum_sum (λ (p : Times s). sum_at f p.times) (λ (q : Times u). sum_at f q.times) (F s) (F u)
    (stars s n) (stars u m))
    (λ pq. both pq.0 pq.1)
  where
    both : (p : Times s) (q : Times u) → F (s +ℚ u) ≤ₑ sum_at f p.times +ₑ sum_at f q.times
    both p q =
        let r : Times (s +ℚ u) = record {
          times = p.times ++ q.times;
          nonneg = append_nonneg p.times q.times p.nonneg q.nonneg;
          whole = both_sum p.times q.times s u p.whole q.whole;
        } in
        le_ext_trans (F (s +ℚ u)) (sum_at f (p.times ++ q.times)) (sum_at f p.times +ₑ sum_at f q.times)
        ((stars (s +ℚ u) (nonneg_sum s u n m)).below r) (same_le_ext (append_at f p.times q.times))

pub closures_subadditive : (f F : ℚ → Ext) → ((t : ℚ) → zero_q ≤ℚ t → IsSubadditiveClosure f t (F t)) → IsSubadditive F
closures_subadditive f F closes s u n m =
    greatest
    (sums (λ (p : Parts s). sum_at f (p.first ∷ p.others)) (λ (q : Parts u). sum_at f (q.first ∷ q.others)))
    (F s +ₑ F u) (F (s +ℚ u))
    (infimum_sum (λ (p : Parts s). sum_at f (p.first ∷ p.others)) (λ (q : Parts u). sum_at f (q.first ∷ q.others))
    (F s) (F u) (closes s n) (closes u m))
    (λ pq. both pq.0 pq.1)
  where
    both : (p : Parts s) (q : Parts u)
        → F (s +ℚ u) ≤ₑ sum_at f (p.first ∷ p.others) +ₑ sum_at f (q.first ∷ q.others)
    both p q =
        let xs : List ℚ = p.first ∷ p.others in
        let ys : List ℚ = q.first ∷ q.others in
        let r : Parts (s +ℚ u) = record {
          first = p.first;
          others = p.others ++ ys;
          nonneg = append_nonneg xs ys p.nonneg q.nonneg;
          whole = both_sum xs ys s u p.whole q.whole;
        } in
        le_ext_trans (F (s +ℚ u)) (sum_at f (xs ++ ys)) (sum_at f xs +ₑ sum_at f ys)
        ((closes (s +ℚ u) (nonneg_sum s u n m)).below r) (same_le_ext (append_at f xs ys))

-- ---- the multiples of a value
sum_times : (i j : ℕ) (x : ℚ) → int (pos i) *ℚ x +ℚ int (pos j) *ℚ x ≡ int (pos (i + j)) *ℚ x
sum_times i j x = sym (add_mul (int (pos i)) (int (pos j)) x) ∙ ap (λ z. z *ℚ x) (sym (int_add i j))

lattices_add : (d c : ℚ) (l : ℚ → Ext) → IsLattice d c l → IsSubadditive l
lattices_add d c l L s u n m = by (l s) (l u) refl refl
  where
    by : (x y : Ext) → l s ≡ x → l u ≡ y → l (s +ℚ u) ≤ₑ x +ₑ y
    by Inf y p q = le_inf (l (s +ℚ u))
    by (Fin a) Inf p q = le_inf (l (s +ℚ u))
    by (Fin a) (Fin b) p q =
        let (i, at_s) = L.only s a n p in
        let (j, at_u) = L.only u b m q in
        let left : a ≡ int (pos i) *ℚ c = fin_same (sym p ∙ ap l at_s ∙ L.at i) in
        let right : b ≡ int (pos j) *ℚ c = fin_same (sym q ∙ ap l at_u ∙ L.at j) in
        same_le_ext
        (ap l (ap₂ (λ v w. v +ℚ w) at_s at_u ∙ sum_times i j d) ∙ L.at (i + j)
        ∙ ap Fin (sym (ap₂ (λ v w. v +ℚ w) left right ∙ sum_times i j c)))

pub lattice_subadditive : (d c : ℚ) → zero_q <ℚ d → IsSubadditive (value_at (lattice_curve d c))
lattice_subadditive d c some = lattices_add d c (value_at (lattice_curve d c)) (lattice_values.lattice d c some)

-- ---- at 0
pub star_low : (f F : ℚ → Ext) → AreStars f F → F zero_q ≤ₑ Fin zero_q
star_low f F stars = (stars zero_q (le_refl zero_q)).below record { times = []; nonneg = tt; whole = refl }

pub lattice_low : (d c : ℚ) → zero_q <ℚ d → value_at (lattice_curve d c) zero_q ≤ₑ Fin zero_q
lattice_low d c some =
    let at = (lattice_values.lattice d c some).at 0 in
    same_le_ext (ap (value_at (lattice_curve d c)) (sym (zero_mul d)) ∙ at ∙ ap Fin (zero_mul c))
