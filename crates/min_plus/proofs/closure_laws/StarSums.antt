-- The star of the lesser of two functions, and how stars and closures follow from each other.
use Rattle.std.specs.Prelude.{◌≡◌, List, [], ◌∷◌, ◌++◌}
use Rattle.std.proofs.Common.{arith, sym, refl, ap, ◌∙◌, subst, inl, inr}
use Rattle.rational.specs.Rational.{ℚ, ◌+ℚ◌, ◌≤ℚ◌, ◌<ℚ◌}
use Rattle.rational.specs.Extended.{Ext, ◌≤ₑ◌, ◌<ₑ◌, ◌+ₑ◌, min_ext}
use Rattle.rational.specs.declared.Extended.TheVariants.{Fin, Inf}
use Rattle.rational.proofs.Linear.{with1, with4}
use Rattle.rational.proofs.Laws.{antisym, le_refl, lt_irrefl}
use Rattle.rational.proofs.Over.{le_q_out}
use Rattle.rational.proofs.MinMax.{le_q_not}
use Rattle.rational.proofs.Laws.{le_or_lt}
use Rattle.rational.proofs.Bounds.{infimum_sum}
use Rattle.rational.proofs.ExtendedOrder.{le_ext_trans, le_lt_ext, same_le_ext, add_le_ext, add_ext_assoc, add_zero_ext, min_left, min_right, min_one, min_ext_assoc}
use Rattle.min_plus.specs.Functions.{zero_q}
use Rattle.min_plus.specs.Convolution.{Split, Parts, AllNonneg, sum_of, sum_at, IsSubadditiveClosure}
use Rattle.min_plus.specs.closure_laws.Star.{Times, IsStar, origin, lesser, least_of}
use Rattle.min_plus.specs.closure_laws.ClosureLaws.{StarOfLesser, StarOfClosure, ClosureOfStar, StarsAreOfValues}
use Rattle.min_plus.proofs.closure_laws.TimeLists.{append_at, append_nonneg, total_le, second_first, zero_parts, zero_total}
use Rattle.min_plus.proofs.TimeSums.{nonneg_total, append_sum}

-- times at which f is the lesser, and times at which g is
record Sorted (f g : ℚ → Ext) (xs : List ℚ) : Type 0 where
  left : List ℚ
  right : List ℚ
  left_nonneg : AllNonneg left
  right_nonneg : AllNonneg right
  whole : sum_of left +ℚ sum_of right ≡ sum_of xs
  value : sum_at f left +ₑ sum_at g right ≤ₑ sum_at (lesser f g) xs

to_left : (f g : ℚ → Ext) (x : ℚ) (xs : List ℚ) → zero_q ≤ℚ x → min_ext (f x) (g x) ≡ f x → Sorted f g xs
    → Sorted f g (x ∷ xs)
to_left f g x xs p e r = record {
  left = x ∷ r.left;
  right = r.right;
  left_nonneg = (p, r.left_nonneg);
  right_nonneg = r.right_nonneg;
  whole = let h = r.whole in
      antisym (with4 x (sum_of r.left) (sum_of r.right) (sum_of xs) (λ c. omega (arith, c.le, c.lt, c.same)));
  value = le_ext_trans ((f x +ₑ sum_at f r.left) +ₑ sum_at g r.right) (f x +ₑ (sum_at f r.left +ₑ sum_at g r.right))
      (lesser f g x +ₑ sum_at (lesser f g) xs)
      (same_le_ext (add_ext_assoc (f x) (sum_at f r.left) (sum_at g r.right)))
      (add_le_ext (f x) (lesser f g x) (sum_at f r.left +ₑ sum_at g r.right) (sum_at (lesser f g) xs)
      (same_le_ext (sym e)) r.value);
}

to_right : (f g : ℚ → Ext) (x : ℚ) (xs : List ℚ) → zero_q ≤ℚ x → min_ext (f x) (g x) ≡ g x → Sorted f g xs
    → Sorted f g (x ∷ xs)
to_right f g x xs p e r = record {
  left = r.left;
  right = x ∷ r.right;
  left_nonneg = r.left_nonneg;
  right_nonneg = (p, r.right_nonneg);
  whole = let h = r.whole in
      antisym (with4 x (sum_of r.left) (sum_of r.right) (sum_of xs) (λ c. omega (arith, c.le, c.lt, c.same)));
  value = le_ext_trans (sum_at f r.left +ₑ (g x +ₑ sum_at g r.right)) (g x +ₑ (sum_at f r.left +ₑ sum_at g r.right))
      (lesser f g x +ₑ sum_at (lesser f g) xs)
      (same_le_ext (second_first (sum_at f r.left) (g x) (sum_at g r.right)))
      (add_le_ext (g x) (lesser f g x) (sum_at f r.left +ₑ sum_at g r.right) (sum_at (lesser f g) xs)
      (same_le_ext (sym e)) r.value);
}

sorted : (f g : ℚ → Ext) (xs : List ℚ) → AllNonneg xs → Sorted f g xs
sorted f g [] n = record {
  left = [];
  right = [];
  left_nonneg = tt;
  right_nonneg = tt;
  whole = antisym (with1 zero_q (λ c. omega (arith, c.le, c.lt, c.same)));
  value = same_le_ext (add_zero_ext (Fin zero_q));
}
sorted f g (x ∷ xs) (p, n) =
    let r = sorted f g xs n in
    elim (min_one (f x) (g x)) [
      | inl e ↦ to_left f g x xs p e r
      | inr e ↦ to_right f g x xs p e r
    ]

both_times : (f g : ℚ → Ext) (s u t : ℚ) (p : Times s) (q : Times u) → s +ℚ u ≡ t
    → (r : Times t) × (sum_at (lesser f g) r.times ≤ₑ sum_at f p.times +ₑ sum_at g q.times)
both_times f g s u t p q e =
    let r : Times t = record {
      times = p.times ++ q.times;
      nonneg = append_nonneg p.times q.times p.nonneg q.nonneg;
      whole = append_sum p.times q.times ∙ ap (λ z. z +ℚ sum_of q.times) p.whole ∙ ap (λ z. s +ℚ z) q.whole ∙ e;
    } in (
      r,
      le_ext_trans (sum_at (lesser f g) (p.times ++ q.times))
          (sum_at (lesser f g) p.times +ₑ sum_at (lesser f g) q.times) (sum_at f p.times +ₑ sum_at g q.times)
          (same_le_ext (append_at (lesser f g) p.times q.times))
          (add_le_ext (sum_at (lesser f g) p.times) (sum_at f p.times) (sum_at (lesser f g) q.times) (sum_at g q.times)
          (total_le (lesser f g) f p.times p.nonneg (λ t h. min_left (f t) (g t)))
          (total_le (lesser f g) g q.times q.nonneg (λ t h. min_right (f t) (g t)))),
    )

pub star_of_lesser : StarOfLesser
star_of_lesser f g F G t v sf sg conv = record {
  below = λ p. under p;
  near = λ y l. close y l;
}
  where
    under : (p : Times t) → v ≤ₑ sum_at (lesser f g) p.times
    under p =
        let r = sorted f g p.times p.nonneg in
        let m : Split t = record {
          first = sum_of r.left;
          second = sum_of r.right;
          first_nonneg = nonneg_total r.left r.left_nonneg;
          second_nonneg = nonneg_total r.right r.right_nonneg;
          whole = r.whole ∙ p.whole;
        } in
        let a : Times (sum_of r.left) = record { times = r.left; nonneg = r.left_nonneg; whole = refl } in
        let b : Times (sum_of r.right) = record { times = r.right; nonneg = r.right_nonneg; whole = refl } in
        le_ext_trans v (F m.first +ₑ G m.second) (sum_at (lesser f g) p.times) (conv.below m)
        (le_ext_trans (F m.first +ₑ G m.second) (sum_at f r.left +ₑ sum_at g r.right) (sum_at (lesser f g) p.times)
        (add_le_ext (F m.first) (sum_at f r.left) (G m.second) (sum_at g r.right)
        ((sf m.first m.first_nonneg).below a) ((sg m.second m.second_nonneg).below b)) r.value)

    close : (y : ℚ) → v <ₑ Fin y → (p : Times t) × (sum_at (lesser f g) p.times <ₑ Fin y)
    close y l =
        let (m, k) = conv.near y l in
        let s = infimum_sum (λ (p : Times m.first). sum_at f p.times) (λ (p : Times m.second). sum_at g p.times)
        (F m.first) (G m.second) (sf m.first m.first_nonneg) (sg m.second m.second_nonneg) in
        let (pq, u) = s.near y k in
        let (r, h) = both_times f g m.first m.second t pq.0 pq.1 m.whole in
        (r, le_lt_ext (sum_at (lesser f g) r.times) (sum_at f pq.0.times +ₑ sum_at g pq.1.times) (Fin y) h u)

-- ---- stars and closures
pub origin_zero : (t : ℚ) → t ≤ℚ zero_q → origin t ≡ Fin zero_q
origin_zero t h = rw (le_q_out t zero_q h) refl

pub origin_past : (t : ℚ) → zero_q <ℚ t → origin t ≡ Inf
origin_past t h = rw (le_q_not t zero_q h) refl

pub star_of_closure : StarOfClosure
star_of_closure f t v low h = record { below = λ p. under p.times p.nonneg p.whole; near = λ y l. close y l }
  where
    under : (xs : List ℚ) → AllNonneg xs → sum_of xs ≡ t → min_ext v (origin t) ≤ₑ sum_at f xs
    under [] n e =
        le_ext_trans (min_ext v (origin t)) (origin t) (Fin zero_q) (min_right v (origin t))
        (same_le_ext (origin_zero t (subst (λ z. z ≤ℚ zero_q) e (le_refl zero_q))))
    under (x ∷ xs) n e =
        let p : Parts t = record { first = x; others = xs; nonneg = n; whole = e } in
        le_ext_trans (min_ext v (origin t)) v (sum_at f (x ∷ xs)) (min_left v (origin t)) (h.below p)

    at_zero : (y : ℚ) → origin t <ₑ Fin y → (p : Times t) × (sum_at f p.times <ₑ Fin y)
    at_zero y l = elim (le_or_lt t zero_q) [
      | inl z ↦
          let p : Times t = record { times = []; nonneg = tt; whole = antisym (low, z) } in
          (p, subst (λ w. w <ₑ Fin y) (origin_zero t z) l)
      | inr z ↦ absurd (subst (λ w. w <ₑ Fin y) (origin_past t z) l)
    ]

    close : (y : ℚ) → min_ext v (origin t) <ₑ Fin y → (p : Times t) × (sum_at f p.times <ₑ Fin y)
    close y l = elim (min_one v (origin t)) [
      | inl e ↦
          let (p, u) = h.near y (subst (λ w. w <ₑ Fin y) e l) in
          let q : Times t = record { times = p.first ∷ p.others; nonneg = p.nonneg; whole = p.whole } in
          (q, u)
      | inr e ↦ at_zero y (subst (λ w. w <ₑ Fin y) e l)
    ]

past_zero : (f : ℚ → Ext) (t : ℚ) (v : Ext) → zero_q <ℚ t → IsStar f t v → IsSubadditiveClosure f t v
past_zero f t v some h = record { below = λ p. under p; near = λ y l. close y l }
  where
    under : (p : Parts t) → v ≤ₑ sum_at f (p.first ∷ p.others)
    under p =
        let q : Times t = record { times = p.first ∷ p.others; nonneg = p.nonneg; whole = p.whole } in
        h.below q

    again : (y : ℚ) (xs : List ℚ) → AllNonneg xs → sum_of xs ≡ t → sum_at f xs <ₑ Fin y
        → (p : Parts t) × (sum_at f (p.first ∷ p.others) <ₑ Fin y)
    again y [] n e l = absurd (lt_irrefl zero_q (subst (λ z. zero_q <ℚ z) (sym e) some))
    again y (x ∷ xs) n e l =
        let p : Parts t = record { first = x; others = xs; nonneg = n; whole = e } in
        (p, l)

    close : (y : ℚ) → v <ₑ Fin y → (p : Parts t) × (sum_at f (p.first ∷ p.others) <ₑ Fin y)
    close y l = let (p, u) = h.near y l in again y p.times p.nonneg p.whole u

closure_at_zero : (f : ℚ → Ext) → Fin zero_q ≤ₑ f zero_q → IsSubadditiveClosure f zero_q (f zero_q)
closure_at_zero f low = record { below = λ p. under p; near = λ y l. (one, close y l) }
  where
    one : Parts zero_q
    one = record {
      first = zero_q;
      others = [];
      nonneg = (le_refl zero_q, tt);
      whole = antisym (with1 zero_q (λ c. omega (arith, c.le, c.lt, c.same)));
    }

    close : (y : ℚ) → f zero_q <ₑ Fin y → f zero_q +ₑ Fin zero_q <ₑ Fin y
    close y l = subst (λ z. z <ₑ Fin y) (sym (add_zero_ext (f zero_q))) l

    under : (p : Parts zero_q) → f zero_q ≤ₑ sum_at f (p.first ∷ p.others)
    under p =
        let n = p.nonneg in
        let z = zero_parts p.first (sum_of p.others) n.0 (nonneg_total p.others n.1) p.whole in
        le_ext_trans (f zero_q) (f zero_q +ₑ Fin zero_q) (f p.first +ₑ sum_at f p.others)
        (same_le_ext (sym (add_zero_ext (f zero_q))))
        (add_le_ext (f zero_q) (f p.first) (Fin zero_q) (sum_at f p.others) (same_le_ext (ap f (sym z.0)))
        (zero_total f p.others n.1 z.1 low))

pub closure_of_star : ClosureOfStar
closure_of_star = record { past = past_zero; zero = closure_at_zero }

pub stars_of_values : StarsAreOfValues
stars_of_values f g t v same h = record {
  below = λ p. le_ext_trans v (sum_at f p.times) (sum_at g p.times) (h.below p)
      (total_le f g p.times p.nonneg (λ s n. same_le_ext (same s n)));
  near = λ y l. let (p, u) = h.near y l in (
    p,
    le_lt_ext (sum_at g p.times) (sum_at f p.times) (Fin y)
        (total_le g f p.times p.nonneg (λ s n. same_le_ext (sym (same s n)))) u,
  );
}

-- one more function at the end of a list
pub least_of_more : (fs : List (ℚ → Ext)) (g : ℚ → Ext) (t : ℚ)
    → least_of (fs ++ g ∷ []) t ≡ lesser (least_of fs) g t
least_of_more [] g t = inf_right (g t)
  where
    inf_right : (x : Ext) → min_ext x Inf ≡ min_ext Inf x
    inf_right Inf = refl
    inf_right (Fin x) = refl
least_of_more (f ∷ fs) g t =
    ap (λ z. min_ext (f t) z) (least_of_more fs g t) ∙ sym (min_ext_assoc (f t) (least_of fs t) (g t))
