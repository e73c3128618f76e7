-- What a closure keeps: a number at each time, nowhere below 0, and rising.
use Rattle.std.specs.Prelude.{◌≡◌, pos, List, [], ◌∷◌}
use Rattle.std.proofs.Common.{arith, sym, ap, ◌∙◌, subst, inl, inr}
use Rattle.rational.specs.Rational.{ℚ, ◌+ℚ◌, ◌*ℚ◌, ◌/ℚ◌, ◌≤ℚ◌, int}
use Rattle.rational.specs.Extended.{Ext, ◌≤ₑ◌, ◌+ₑ◌}
use Rattle.rational.specs.declared.Extended.TheVariants.{Fin}
use Rattle.rational.proofs.Linear.{with1, with2}
use Rattle.rational.proofs.Laws.{antisym, le_refl, le_or_lt, mul_nonneg, mul_le_mul_right, mul_add, mul_zero, one_mul, zero_mul, div_mul, not_zero, le_of_mul}
use Rattle.rational.proofs.Bounds.{greatest, infimum_le}
use Rattle.rational.proofs.ExtendedOrder.{le_ext_refl, le_ext_trans, same_le_ext, add_le_ext, add_zero_ext, finite_below, zero_add_ext}
use Rattle.min_plus.specs.Functions.{zero_q, IsFinite, IsRising, IsNonnegative}
use Rattle.min_plus.specs.Convolution.{Parts, AllNonneg, sum_of, sum_at, IsSubadditiveClosure}
use Rattle.min_plus.specs.closure_laws.ClosureLaws.{ClosuresKeep}

-- the time t alone
abbrev pub alone : (t : ℚ) → zero_q ≤ℚ t → Parts t
alone t n = record {
  first = t;
  others = [];
  nonneg = (n, tt);
  whole = antisym (with1 t (λ c. omega (arith, c.le, c.lt, c.same)));
}

pub closure_le : (f : ℚ → Ext) (t : ℚ) (v : Ext) → zero_q ≤ℚ t → IsSubadditiveClosure f t v → v ≤ₑ f t
closure_le f t v n h =
    le_ext_trans v (f t +ₑ Fin zero_q) (f t) (h.below (alone t n)) (same_le_ext (add_zero_ext (f t)))

finite_kept : (f F : ℚ → Ext) → ((t : ℚ) → zero_q ≤ℚ t → IsSubadditiveClosure f t (F t)) → IsFinite f → IsFinite F
finite_kept f F closed finite t n =
    let (q, e) = finite t n in
    finite_below (F t) q (le_ext_trans (F t) (f t) (Fin q) (closure_le f t (F t) n (closed t n)) (same_le_ext e))

pub total_nonneg : (f : ℚ → Ext) (xs : List ℚ) → AllNonneg xs → IsNonnegative f → Fin zero_q ≤ₑ sum_at f xs
total_nonneg f [] n low = le_ext_refl (Fin zero_q)
total_nonneg f (x ∷ xs) (p, n) low =
    le_ext_trans (Fin zero_q) (Fin zero_q +ₑ Fin zero_q) (f x +ₑ sum_at f xs)
    (same_le_ext (sym (zero_add_ext (Fin zero_q))))
    (add_le_ext (Fin zero_q) (f x) (Fin zero_q) (sum_at f xs) (low x p) (total_nonneg f xs n low))

nonneg_kept : (f F : ℚ → Ext) → ((t : ℚ) → zero_q ≤ℚ t → IsSubadditiveClosure f t (F t)) → IsNonnegative f
    → IsNonnegative F
nonneg_kept f F closed low t n =
    greatest (λ (p : Parts t). sum_at f (p.first ∷ p.others)) (F t) (Fin zero_q) (closed t n)
    (λ p. total_nonneg f (p.first ∷ p.others) p.nonneg low)

-- ---- rising
-- each time, made w times as long
abbrev pub shrunk : ℚ → List ℚ → List ℚ
shrunk w [] = []
shrunk w (x ∷ xs) = (w *ℚ x) ∷ shrunk w xs

shrunk_sum : (w : ℚ) (xs : List ℚ) → sum_of (shrunk w xs) ≡ w *ℚ sum_of xs
shrunk_sum w [] = sym (mul_zero w)
shrunk_sum w (x ∷ xs) = ap (λ z. w *ℚ x +ℚ z) (shrunk_sum w xs) ∙ sym (mul_add w x (sum_of xs))

shrunk_nonneg : (w : ℚ) (xs : List ℚ) → zero_q ≤ℚ w → AllNonneg xs → AllNonneg (shrunk w xs)
shrunk_nonneg w [] low n = tt
shrunk_nonneg w (x ∷ xs) low (p, n) = (mul_nonneg low p, shrunk_nonneg w xs low n)

shrunk_le : (f : ℚ → Ext) (w : ℚ) (xs : List ℚ) → zero_q ≤ℚ w → w ≤ℚ int (pos 1) → AllNonneg xs → IsRising f
    → sum_at f (shrunk w xs) ≤ₑ sum_at f xs
shrunk_le f w [] low most n rises = le_ext_refl (Fin zero_q)
shrunk_le f w (x ∷ xs) low most (p, n) rises =
    add_le_ext (f (w *ℚ x)) (f x) (sum_at f (shrunk w xs)) (sum_at f xs)
    (rises (w *ℚ x) x (mul_nonneg low p)
    (subst (λ z. w *ℚ x ≤ℚ z) (one_mul x) (mul_le_mul_right x p most)))
    (shrunk_le f w xs low most n rises)

-- s is w times t, for some w from 0 to 1
record Share (s t : ℚ) : Type 0 where
  part : ℚ
  low : zero_q ≤ℚ part
  most : part ≤ℚ int (pos 1)
  is : part *ℚ t ≡ s

share_of : (s t : ℚ) → zero_q ≤ℚ s → s ≤ℚ t → Share s t
share_of s t n l = elim (le_or_lt t zero_q) [
  | inl z ↦ record {
    part = zero_q;
    low = le_refl zero_q;
    most = with1 zero_q (λ c. omega (arith, c.le, c.lt, c.same));
    is = none z;
  }
  | inr some ↦
      let back : (s /ℚ t) *ℚ t ≡ s = div_mul s t (not_zero t some) in
      record {
        part = s /ℚ t;
        low = le_of_mul t zero_q (s /ℚ t) some
            (subst (λ z. zero_q *ℚ t ≤ℚ z) (sym back)
            (subst (λ z. z ≤ℚ s) (sym (zero_mul t)) n));
        most = le_of_mul t (s /ℚ t) (int (pos 1)) some
            (subst (λ z. z ≤ℚ int (pos 1) *ℚ t) (sym back) (subst (λ z. s ≤ℚ z) (sym (one_mul t)) l));
        is = back;
      }
]
  where
    none : t ≤ℚ zero_q → zero_q *ℚ t ≡ s
    none z = zero_mul t ∙ antisym (with2 s t (λ c. omega (arith, c.le, c.lt, c.same)))

rising_kept : (f F : ℚ → Ext) → ((t : ℚ) → zero_q ≤ℚ t → IsSubadditiveClosure f t (F t)) → IsRising f → IsRising F
rising_kept f F closed rises s t n l =
    let m : zero_q ≤ℚ t = with2 s t (λ c. omega (arith, c.le, c.lt, c.same)) in
    let w = share_of s t n l in
    infimum_le (λ (p : Parts s). sum_at f (p.first ∷ p.others)) (λ (p : Parts t). sum_at f (p.first ∷ p.others))
    (F s) (F t) (closed s n) (closed t m) (λ p. down w p)
  where
    down : (w : Share s t) (p : Parts t)
        → (q : Parts s) × (sum_at f (q.first ∷ q.others) ≤ₑ sum_at f (p.first ∷ p.others))
    down w p =
        let q : Parts s = record {
          first = w.part *ℚ p.first;
          others = shrunk w.part p.others;
          nonneg = shrunk_nonneg w.part (p.first ∷ p.others) w.low p.nonneg;
          whole = shrunk_sum w.part (p.first ∷ p.others) ∙ ap (λ z. w.part *ℚ z) p.whole ∙ w.is;
        } in
        (q, shrunk_le f w.part (p.first ∷ p.others) w.low w.most p.nonneg rises)

pub closures_keep : ClosuresKeep
closures_keep f F closed = record {
  finite = finite_kept f F closed;
  nonneg = nonneg_kept f F closed;
  rising = rising_kept f F closed;
}
