-- The closure of a function with its copies: the copies' numbers add up.
use Rattle.std.specs.Prelude.{◌≡◌, ℕ, ◌+◌, pos, List, [], ◌∷◌}
use Rattle.std.proofs.Common.{arith, sym, refl, ap, ◌∙◌, subst}
use Rattle.rational.specs.Rational.{ℚ, ◌+ℚ◌, ◌-ℚ◌, ◌*ℚ◌, ◌≤ℚ◌, ◌<ℚ◌, int}
use Rattle.rational.specs.Extended.{Ext, ◌≤ₑ◌, ◌<ₑ◌, ◌+ₑ◌}
use Rattle.rational.specs.declared.Extended.TheVariants.{Fin, Inf}
use Rattle.rational.proofs.Linear.{with1, with6}
use Rattle.rational.proofs.Laws.{antisym, zero_mul, add_mul, mul_nonneg, le_of_lt}
use Rattle.rational.proofs.Integers.{nat_nonneg, int_add}
use Rattle.rational.proofs.ExtendedOrder.{le_ext_trans, le_lt_ext, same_le_ext, add_le_ext, add_zero_ext, finite_sum, le_inf, lt_add_out, lt_add_in, fin_same}
use Rattle.min_plus.specs.Functions.{zero_q}
use Rattle.min_plus.specs.Convolution.{Split, Parts, AllNonneg, sum_of, sum_at, IsConvolution, IsSubadditiveClosure}
use Rattle.min_plus.specs.closure_laws.ClosureLaws.{IsLattice, IsCopy, HasCopies, ClosureOfCopies}
use Rattle.min_plus.proofs.closure_laws.TimeLists.{total_le, sums_crossed}
use Rattle.min_plus.proofs.TimeSums.{nonneg_sum, nonneg_total}
use Rattle.min_plus.specs.closure_laws.Star.{nat_times}

more_times : (n m : ℕ) (d : ℚ) → nat_times (n + m) d ≡ nat_times n d +ℚ nat_times m d
more_times n m d = ap (λ z. z *ℚ d) (sym (int_add (pos n) (pos m))) ∙ add_mul (int (pos n)) (int (pos m)) d

-- times of e, as many as those of h, and all their copies' numbers together
record Uncopied (e h : ℚ → Ext) (d c : ℚ) (xs : List ℚ) : Type 0 where
  number : ℕ
  times : List ℚ
  nonneg : AllNonneg times
  whole : sum_of xs ≡ sum_of times +ℚ nat_times number d
  value : sum_at e times +ₑ Fin (nat_times number c) ≤ₑ sum_at h xs

-- the same with a first time
record UncopiedFirst (e h : ℚ → Ext) (d c x : ℚ) (xs : List ℚ) : Type 0 where
  number : ℕ
  first : ℚ
  others : List ℚ
  nonneg : AllNonneg (first ∷ others)
  whole : x +ℚ sum_of xs ≡ sum_of (first ∷ others) +ℚ nat_times number d
  value : sum_at e (first ∷ others) +ₑ Fin (nat_times number c) ≤ₑ h x +ₑ sum_at h xs

-- one time more
one_more : (e h : ℚ → Ext) (d c x : ℚ) (xs : List ℚ) (a : ℚ) → h x ≡ Fin a → IsCopy e d c x a
    → Uncopied e h d c xs → UncopiedFirst e h d c x xs
one_more e h d c x xs a same y r = record {
  number = y.number + r.number;
  first = y.time;
  others = r.times;
  nonneg = (y.nonneg, r.nonneg);
  whole = let u = y.moved in let v = r.whole in let w = more_times y.number r.number d in
      antisym (with_all x (sum_of xs) y.time (sum_of r.times) (nat_times y.number d) (nat_times r.number d) (nat_times (y.number + r.number) d) u v w);
  value = let w = more_times y.number r.number c in
      le_ext_trans ((e y.time +ₑ sum_at e r.times) +ₑ Fin (nat_times (y.number + r.number) c))
      ((e y.time +ₑ Fin (nat_times y.number c)) +ₑ (sum_at e r.times +ₑ Fin (nat_times r.number c)))
      (h x +ₑ sum_at h xs)
      (same_le_ext (ap (λ z. (e y.time +ₑ sum_at e r.times) +ₑ Fin z) w
      ∙ sums_crossed (e y.time) (sum_at e r.times) (Fin (nat_times y.number c)) (Fin (nat_times r.number c))))
      (add_le_ext (e y.time +ₑ Fin (nat_times y.number c)) (h x) (sum_at e r.times +ₑ Fin (nat_times r.number c)) (sum_at h xs)
      (subst (λ z. e y.time +ₑ Fin (nat_times y.number c) ≤ₑ z) (sym same) y.value) r.value);
}
  where
    with_all : (x s y t n m k : ℚ) → x ≡ y +ℚ n → s ≡ t +ℚ m → k ≡ n +ℚ m → (x +ℚ s ≤ℚ (y +ℚ t) +ℚ k) × ((y +ℚ t) +ℚ k ≤ℚ x +ℚ s)
    with_all x s y t n m k p q r = with6 x s y t n m (λ o. omega (arith, o.le, o.lt, o.same))

uncopied : (e h : ℚ → Ext) (d c : ℚ) → HasCopies e d c h → (xs : List ℚ) (q : ℚ) → AllNonneg xs → sum_at h xs ≡ Fin q
    → Uncopied e h d c xs
uncopied e h d c copies [] q n s = record {
  number = 0;
  times = [];
  nonneg = tt;
  whole = antisym (with1 zero_q (λ o. omega (arith, o.le, o.lt, o.same, zero_mul d)));
  value = same_le_ext (ap (λ z. Fin zero_q +ₑ Fin z) (zero_mul c) ∙ add_zero_ext (Fin zero_q));
}
uncopied e h d c copies (x ∷ xs) q (p, n) s =
    let (a, b, f, g) = finite_sum (h x) (sum_at h xs) q s in
    let r = one_more e h d c x xs a f (copies.only x a p f) (uncopied e h d c copies xs b n g) in
    record { number = r.number; times = r.first ∷ r.others; nonneg = r.nonneg; whole = r.whole; value = r.value }

-- each value of h is at most that of e
no_copy : (e h : ℚ → Ext) (d c : ℚ) → HasCopies e d c h → (t : ℚ) → zero_q ≤ℚ t → h t ≤ₑ e t
no_copy e h d c copies t n =
    let k = copies.at 0 t n in
    let same : t +ℚ nat_times 0 d ≡ t = antisym (with1 t (λ o. omega (arith, o.le, o.lt, o.same, zero_mul d))) in
    let rest : e t +ₑ Fin (nat_times 0 c) ≡ e t = ap (λ z. e t +ₑ Fin z) (zero_mul c) ∙ add_zero_ext (e t) in
    le_ext_trans (h t) (e t +ₑ Fin (nat_times 0 c)) (e t) (subst (λ z. h z ≤ₑ e t +ₑ Fin (nat_times 0 c)) same k) (same_le_ext rest)

copies_below : (e h l E : ℚ → Ext) (d c t : ℚ) (v : Ext) → zero_q <ℚ d → HasCopies e d c h → IsLattice d c l
    → ((s : ℚ) → zero_q ≤ℚ s → IsSubadditiveClosure e s (E s)) → IsConvolution E l t v
    → (x : ℚ) (xs : List ℚ) → AllNonneg (x ∷ xs) → sum_of (x ∷ xs) ≡ t → (w : Ext) → sum_at h (x ∷ xs) ≡ w → v ≤ₑ w
copies_below e h l E d c t v some copies lattice closed conv x xs n whole Inf s = le_inf v
copies_below e h l E d c t v some copies lattice closed conv x xs (p, n) whole (Fin q) s =
    let (a, b, f, g) = finite_sum (h x) (sum_at h xs) q s in
    let r = one_more e h d c x xs a f (copies.only x a p f) (uncopied e h d c copies xs b n g) in
    let base : zero_q ≤ℚ sum_of (r.first ∷ r.others) = nonneg_total (r.first ∷ r.others) r.nonneg in
    let m : Split t = record {
      first = sum_of (r.first ∷ r.others);
      second = nat_times r.number d;
      first_nonneg = base;
      second_nonneg = mul_nonneg (nat_nonneg r.number) (le_of_lt some);
      whole = sym r.whole ∙ whole;
    } in
    let parts : Parts (sum_of (r.first ∷ r.others)) = record { first = r.first; others = r.others; nonneg = r.nonneg; whole = refl } in
    le_ext_trans v (E m.first +ₑ l m.second) (Fin q) (conv.below m)
    (le_ext_trans (E m.first +ₑ l m.second) (sum_at e (r.first ∷ r.others) +ₑ Fin (nat_times r.number c)) (Fin q)
    (add_le_ext (E m.first) (sum_at e (r.first ∷ r.others)) (l m.second) (Fin (nat_times r.number c))
    ((closed m.first base).below parts) (same_le_ext (lattice.at r.number)))
    (subst (λ z. sum_at e (r.first ∷ r.others) +ₑ Fin (nat_times r.number c) ≤ₑ z) s r.value))

pub closure_of_copies : ClosureOfCopies
closure_of_copies e h l E d c t v some copies lattice closed conv = record {
  below = λ p. copies_below e h l E d c t v some copies lattice closed conv p.first p.others p.nonneg p.whole (sum_at h (p.first ∷ p.others)) refl;
  near = λ y k. let (m, u) = conv.near y k in with_number y m (l m.second) refl u;
}
  where
    moved : (y : ℚ) (m : Split t) (n : ℕ) → m.second ≡ nat_times n d → (p : Parts m.first)
        → sum_at e (p.first ∷ p.others) +ₑ Fin (nat_times n c) <ₑ Fin y
        → (r : Parts t) × (sum_at h (r.first ∷ r.others) <ₑ Fin y)
    moved y m n is p u =
        let N = p.nonneg in
        let W = p.whole in
        let M = m.whole in
        let low : zero_q ≤ℚ nat_times n d = mul_nonneg (nat_nonneg n) (le_of_lt some) in
        let r : Parts t = record {
          first = p.first +ℚ nat_times n d;
          others = p.others;
          nonneg = (nonneg_sum p.first (nat_times n d) N.0 low, N.1);
          whole = antisym (added p.first (sum_of p.others) (nat_times n d) m.first m.second t W M is);
        } in (
          r,
          le_lt_ext (sum_at h (r.first ∷ r.others)) (sum_at e (p.first ∷ p.others) +ₑ Fin (nat_times n c)) (Fin y)
              (le_ext_trans (h r.first +ₑ sum_at h p.others) ((e p.first +ₑ Fin (nat_times n c)) +ₑ sum_at e p.others)
              (sum_at e (p.first ∷ p.others) +ₑ Fin (nat_times n c))
              (add_le_ext (h r.first) (e p.first +ₑ Fin (nat_times n c)) (sum_at h p.others) (sum_at e p.others)
              (copies.at n p.first N.0) (total_le h e p.others N.1 (no_copy e h d c copies)))
              (same_le_ext (last_first (e p.first) (Fin (nat_times n c)) (sum_at e p.others)))) u,
        )
      where
        added : (a b k s u t : ℚ) → a +ℚ b ≡ s → s +ℚ u ≡ t → u ≡ k → ((a +ℚ k) +ℚ b ≤ℚ t) × (t ≤ℚ (a +ℚ k) +ℚ b)
        added a b k s u t p q r = with6 a b k s u t (λ o. omega (arith, o.le, o.lt, o.same))

        last_first : (x y z : Ext) → (x +ₑ y) +ₑ z ≡ (x +ₑ z) +ₑ y
        last_first x y z =
            ap (λ w. (x +ₑ y) +ₑ w) (sym (add_zero_ext z)) ∙ sums_crossed x y z (Fin zero_q)
            ∙ ap (λ w. (x +ₑ z) +ₑ w) (add_zero_ext y)

    with_number : (y : ℚ) (m : Split t) (w : Ext) → l m.second ≡ w → E m.first +ₑ w <ₑ Fin y
        → (r : Parts t) × (sum_at h (r.first ∷ r.others) <ₑ Fin y)
    with_number y m Inf is u = absurd (no_end (E m.first) u)
      where
        no_end : (x : Ext) → ¬ (x +ₑ Inf <ₑ Fin y)
        no_end Inf k = k
        no_end (Fin x) k = k
    with_number y m (Fin q) is u =
        let (n, at) = lattice.only m.second q m.second_nonneg is in
        let value : q ≡ nat_times n c = fin_is q (nat_times n c) (sym is ∙ ap l at ∙ lattice.at n) in
        let v : E m.first +ₑ Fin (nat_times n c) <ₑ Fin y = subst (λ z. E m.first +ₑ Fin z <ₑ Fin y) value u in
        let (p, k) = (closed m.first m.first_nonneg).near (y -ℚ nat_times n c) (lt_add_out (E m.first) (nat_times n c) y v) in
        moved y m n at p (lt_add_in (sum_at e (p.first ∷ p.others)) (nat_times n c) y k)
      where
        fin_is : (a b : ℚ) → Fin a ≡ Fin b → a ≡ b
        fin_is a b e = fin_same e
