-- Operators worked out for a bucket and a service after a latency; the running bounds of what does not fall.
use Rattle.std.specs.Prelude.{◌≡◌, ℕ, zero, suc, pos, List, [], ◌∷◌}
use Rattle.std.proofs.Common.{arith, sym, ap, ◌∙◌, subst, inl, inr, refl}
use Rattle.rational.specs.Rational.{ℚ, ◌+ℚ◌, ◌-ℚ◌, ◌*ℚ◌, ◌≤ℚ◌, ◌<ℚ◌, ◌/ℚ◌, int}
use Rattle.rational.proofs.Linear.{with1, with2, with3, with5, with8, with4}
use Rattle.rational.proofs.Laws.{le_refl, le_or_lt, le_of_lt, mul_add, mul_sub, mul_zero, mul_nonneg, mul_le_mul, mul_le_mul_right, antisym, mul_comm, div_mul}
use Rattle.rational.specs.Extended.{Ext, ◌≤ₑ◌, ◌+ₑ◌, ◌-ₑ◌}
use Rattle.rational.specs.declared.Extended.TheVariants.{Fin, Inf}
use Rattle.rational.specs.MinMax.{max_q}
use Rattle.rational.proofs.MinMax.{max_q_right, max_q_ge_left, max_q_ge_right, max_q_le}
use Rattle.rational.proofs.Bounds.{least_member, largest_member}
use Rattle.rational.proofs.Integers.{nat_next}
use Rattle.rational.proofs.Whole.{one_more_times, le_of_mul, not_zero, nat_nonneg}
use Rattle.min_plus.specs.Functions.{zero_q, UpTo, FiniteTime}
use Rattle.min_plus.specs.Convolution.{Parts, AllNonneg, sum_of, sum_at, IsDeconvolution, IsSubadditiveClosure, Split, IsConvolution, IsSubadditive}
use Rattle.min_plus.specs.Running.{IsRunningSupremum}
use Rattle.min_plus.specs.Formulas.{IsBucket, IsService, rate_latency_value}
use Rattle.min_plus.proofs.Rates.{enough}
use Rattle.rational.proofs.ExtendedOrder.{fin_same}

-- a function that does not fall is its own running supremum and infimum
pub rising_run_sup : (f : ℚ → Ext) (t : ℚ) → zero_q ≤ℚ t → ((s u : ℚ) → zero_q ≤ℚ s → s ≤ℚ u → f s ≤ₑ f u) → IsRunningSupremum f t (f t)
rising_run_sup f t start rise = largest_member {I = UpTo t} (λ s. f s.at) record { at = t; nonneg = start; most = le_refl t } (λ s. rise s.at t s.nonneg s.most)

-- what leaves a server: burst and rate after the latency
pub bucket_deconvolution : (b r R T t : ℚ) (f g : ℚ → Ext) → zero_q ≤ℚ r → zero_q <ℚ R → zero_q ≤ℚ T → r ≤ℚ R → zero_q ≤ℚ t → IsBucket b r f → IsService R T g
    → IsDeconvolution f g t (Fin (b +ℚ r *ℚ (t +ℚ T)))
bucket_deconvolution b r R T t f g hr some hT fast start F G =
    subst (λ v. IsDeconvolution f g t v) value (largest_member {I = FiniteTime g} (λ u. f (t +ℚ u.at) -ₑ u.level) at_latency under)
  where
    none : g T ≡ Fin zero_q
    none =
        let z : T -ℚ T ≡ zero_q = with1 T (λ c. omega (arith, c.le, c.lt, c.same)) in
        G.is T hT ∙ ap Fin (ap (λ x. R *ℚ x) (ap (max_q zero_q) z ∙ max_q_right zero_q zero_q (le_refl zero_q)) ∙ mul_zero R)

    at_latency : FiniteTime g
    at_latency = record { at = T; nonneg = hT; level = zero_q; is = none }

    value : f (t +ℚ T) -ₑ zero_q ≡ Fin (b +ℚ r *ℚ (t +ℚ T))
    value =
        let s : zero_q ≤ℚ t +ℚ T = with2 t T (λ c. omega (arith, c.le, c.lt, c.same)) in
        ap (λ v. v -ₑ zero_q) (F.is (t +ℚ T) s) ∙ ap Fin (with2 b (r *ℚ (t +ℚ T)) (λ c. omega (arith, c.le, c.lt, c.same)))

    bound : (u y : ℚ) → R *ℚ max_q zero_q (u -ℚ T) ≡ y → (b +ℚ r *ℚ (t +ℚ u)) -ℚ y ≤ℚ b +ℚ r *ℚ (t +ℚ T)
    bound u y e = elim (le_or_lt u T) [
      | inl l ↦
          let p = mul_nonneg (le_of_lt some) (max_q_ge_left zero_q (u -ℚ T)) in
          let top = R *ℚ max_q zero_q (u -ℚ T) in
          let m = mul_le_mul r hr (sums u l) in
          with5 b y top (r *ℚ (t +ℚ u)) (r *ℚ (t +ℚ T)) (λ c. omega (arith, c.le, c.lt, c.same))
      | inr l ↦
          let gap : zero_q ≤ℚ u -ℚ T = with2 u T (λ c. omega (arith, c.le, c.lt, c.same)) in
          let m = mul_le_mul_right (u -ℚ T) gap fast in
          let n = mul_le_mul R (le_of_lt some) (max_q_ge_right zero_q (u -ℚ T)) in
          let x = mul_add r t u in
          let w = mul_add r t T in
          let v = mul_sub r u T in
          let top = R *ℚ max_q zero_q (u -ℚ T) in
          rw (x, w) (with8 b y top (r *ℚ t) (r *ℚ u) (r *ℚ T) (r *ℚ (u -ℚ T)) (R *ℚ (u -ℚ T)) (λ c. omega (arith, c.le, c.lt, c.same)))
    ]
      where
        sums : (u : ℚ) → u ≤ℚ T → t +ℚ u ≤ℚ t +ℚ T
        sums u l = with3 t u T (λ c. omega (arith, c.le, c.lt, c.same))

    under : (u : FiniteTime g) → f (t +ℚ u.at) -ₑ u.level ≤ₑ f (t +ℚ at_latency.at) -ₑ at_latency.level
    under u =
        let e = fin_same (sym (G.is u.at u.nonneg) ∙ u.is) in
        let x = u.at in
        let h = u.nonneg in
        let s : zero_q ≤ℚ t +ℚ u.at = with2 t x (λ c. omega (arith, c.le, c.lt, c.same)) in
        rw (value, F.is (t +ℚ u.at) s) (bound u.at u.level e)

-- ---- the convolution of two buckets: bursts add, and the lesser rate stays
pub bucket_convolution : (b r c q t : ℚ) (f g : ℚ → Ext) → r ≤ℚ q → zero_q ≤ℚ t → IsBucket b r f → IsBucket c q g
    → IsConvolution f g t (Fin ((b +ℚ c) +ℚ r *ℚ t))
bucket_convolution b r c q t f g less start F G =
    subst (λ v. IsConvolution f g t v) value (least_member {I = Split t} (λ s. f s.first +ₑ g s.second) all under)
  where
    all : Split t
    all = record { first = t; second = zero_q; first_nonneg = start; second_nonneg = le_refl zero_q; whole = with1 t (λ c. omega (arith, c.le, c.lt, c.same)) }

    value : f t +ₑ g zero_q ≡ Fin ((b +ℚ c) +ℚ r *ℚ t)
    value =
        let z = mul_zero q in
        rw (F.is t start, G.is zero_q (le_refl zero_q)) (ap Fin (with4 b c (r *ℚ t) (q *ℚ zero_q) (λ c. omega (arith, c.le, c.lt, c.same))))

    under : (s : Split t) → f t +ₑ g zero_q ≤ₑ f s.first +ₑ g s.second
    under s =
        let e : r *ℚ t ≡ r *ℚ s.first +ℚ r *ℚ s.second = ap (λ v. r *ℚ v) (sym s.whole) ∙ mul_add r s.first s.second in
        let m = mul_le_mul_right s.second s.second_nonneg less in
        rw (value, F.is s.first s.first_nonneg, G.is s.second s.second_nonneg)
        (with5 b c (r *ℚ s.first) (r *ℚ s.second) (q *ℚ s.second) (λ c. omega (arith, c.le, c.lt, c.same)))

-- ---- a bucket is its own subadditive closure
pub bucket_closure : (b r t : ℚ) (f : ℚ → Ext) → zero_q ≤ℚ b → zero_q ≤ℚ t → IsBucket b r f → IsSubadditiveClosure f t (Fin (b +ℚ r *ℚ t))
bucket_closure b r t f hb start F =
    subst (λ v. IsSubadditiveClosure f t v) value (least_member {I = Parts t} (λ p. sum_at f (p.first ∷ p.others)) one under)
  where
    one : Parts t
    one = record { first = t; others = []; nonneg = (start, tt); whole = with1 t (λ c. omega (arith, c.le, c.lt, c.same)) }

    value : sum_at f (t ∷ []) ≡ Fin (b +ℚ r *ℚ t)
    value = rw (F.is t start) (ap Fin (with2 b (r *ℚ t) (λ c. omega (arith, c.le, c.lt, c.same))))

    -- each further part adds a burst
    others : (xs : List ℚ) → AllNonneg xs → Fin (r *ℚ sum_of xs) ≤ₑ sum_at f xs
    others [] h = let z = mul_zero r in with1 (r *ℚ zero_q) (λ c. omega (arith, c.le, c.lt, c.same))
    others (x ∷ xs) h = rw (F.is x h.0) (more (sum_at f xs) x (sum_of xs) (others xs h.1))
      where
        more : (v : Ext) (x s : ℚ) → Fin (r *ℚ s) ≤ₑ v → Fin (r *ℚ (x +ℚ s)) ≤ₑ Fin (b +ℚ r *ℚ x) +ₑ v
        more Inf x s k = tt
        more (Fin v) x s k = let e = mul_add r x s in with5 b v (r *ℚ x) (r *ℚ s) (r *ℚ (x +ℚ s)) (λ c. omega (arith, c.le, c.lt, c.same))

    under : (p : Parts t) → sum_at f (t ∷ []) ≤ₑ sum_at f (p.first ∷ p.others)
    under p = rw (value, F.is p.first p.nonneg.0) (last (sum_at f p.others) p.first (sum_of p.others) p.whole (others p.others p.nonneg.1))
      where
        last : (v : Ext) (x s : ℚ) → x +ℚ s ≡ t → Fin (r *ℚ s) ≤ₑ v → Fin (b +ℚ r *ℚ t) ≤ₑ Fin (b +ℚ r *ℚ x) +ₑ v
        last Inf x s e k = tt
        last (Fin v) x s e k =
            let w : r *ℚ t ≡ r *ℚ x +ℚ r *ℚ s = ap (λ z. r *ℚ z) (sym e) ∙ mul_add r x s in
            with5 b v (r *ℚ x) (r *ℚ s) (r *ℚ t) (λ c. omega (arith, c.le, c.lt, c.same))

-- ---- two services in a row: the latencies add
pub service_convolution : (R S T t : ℚ) (f g : ℚ → Ext) → zero_q ≤ℚ R → zero_q ≤ℚ S → zero_q ≤ℚ T → zero_q ≤ℚ t → IsService R S f → IsService R T g
    → IsConvolution f g t (rate_latency_value R (S +ℚ T) t)
service_convolution R S T t f g hR hS hT start F G = elim (le_or_lt t S) [
  | inl l ↦
      let a : max_q zero_q (t -ℚ S) ≡ zero_q = none t S l in
      let b : max_q zero_q (zero_q -ℚ T) ≡ zero_q = none zero_q T hT in
      let c : max_q zero_q (t -ℚ (S +ℚ T)) ≡ zero_q = none t (S +ℚ T) (with3 t S T (λ c. omega (arith, c.le, c.lt, c.same))) in
      by_split t zero_q start (le_refl zero_q) (with1 t (λ c. omega (arith, c.le, c.lt, c.same))) (rw (a, b, c) (with1 zero_q (λ c. omega (arith, c.le, c.lt, c.same))))
  | inr l ↦
      let a : max_q zero_q (S -ℚ S) ≡ zero_q = none S S (le_refl S) in
      let b : (t -ℚ S) -ℚ T ≡ t -ℚ (S +ℚ T) = with3 t S T (λ c. omega (arith, c.le, c.lt, c.same)) in
      by_split S (t -ℚ S) hS (with2 t S (λ c. omega (arith, c.le, c.lt, c.same))) (with2 t S (λ c. omega (arith, c.le, c.lt, c.same)))
      (rw (a, b) (with1 (max_q zero_q (t -ℚ (S +ℚ T))) (λ c. omega (arith, c.le, c.lt, c.same))))
]
  where
    none : (s S : ℚ) → s ≤ℚ S → max_q zero_q (s -ℚ S) ≡ zero_q
    none s S l = antisym (max_q_le zero_q (s -ℚ S) zero_q (le_refl zero_q) (with2 s S (λ c. omega (arith, c.le, c.lt, c.same))), max_q_ge_left zero_q (s -ℚ S))

    value : (s u : ℚ) → zero_q ≤ℚ s → zero_q ≤ℚ u → f s +ₑ g u ≡ Fin (R *ℚ (max_q zero_q (s -ℚ S) +ℚ max_q zero_q (u -ℚ T)))
    value s u p q = rw (F.is s p, G.is u q) (ap Fin (sym (mul_add R (max_q zero_q (s -ℚ S)) (max_q zero_q (u -ℚ T)))))

    least : (s u : ℚ) → s +ℚ u ≡ t → max_q zero_q (t -ℚ (S +ℚ T)) ≤ℚ max_q zero_q (s -ℚ S) +ℚ max_q zero_q (u -ℚ T)
    least s u e =
        let a = max_q zero_q (s -ℚ S) in
        let b = max_q zero_q (u -ℚ T) in
        under a b (max_q_ge_left zero_q (s -ℚ S)) (max_q_ge_right zero_q (s -ℚ S)) (max_q_ge_left zero_q (u -ℚ T)) (max_q_ge_right zero_q (u -ℚ T))
      where
        under : (a b : ℚ) → zero_q ≤ℚ a → s -ℚ S ≤ℚ a → zero_q ≤ℚ b → u -ℚ T ≤ℚ b → max_q zero_q (t -ℚ (S +ℚ T)) ≤ℚ a +ℚ b
        under a b a0 a1 b0 b1 =
            max_q_le zero_q (t -ℚ (S +ℚ T)) (a +ℚ b) (with2 a b (λ c. omega (arith, c.le, c.lt, c.same)))
            (with8 a b s u t S T zero_q (λ c. omega (arith, c.le, c.lt, c.same)))

    by_split : (s u : ℚ) → zero_q ≤ℚ s → zero_q ≤ℚ u → s +ℚ u ≡ t → max_q zero_q (s -ℚ S) +ℚ max_q zero_q (u -ℚ T) ≡ max_q zero_q (t -ℚ (S +ℚ T))
        → IsConvolution f g t (rate_latency_value R (S +ℚ T) t)
    by_split s u p q e v =
        let at : f s +ₑ g u ≡ rate_latency_value R (S +ℚ T) t = value s u p q ∙ ap (λ x. Fin (R *ℚ x)) v in
        subst (λ z. IsConvolution f g t z) at
        (least_member {I = Split t} (λ k. f k.first +ₑ g k.second) record { first = s; second = u; first_nonneg = p; second_nonneg = q; whole = e }
        (λ k. rw (at, value k.first k.second k.first_nonneg k.second_nonneg) (mul_le_mul R hR (least k.first k.second k.whole))))

-- ---- a service after a latency closes to nothing: in parts short enough nothing is done
pub service_closure : (R T t : ℚ) (f : ℚ → Ext) → zero_q ≤ℚ R → zero_q <ℚ T → zero_q ≤ℚ t → IsService R T f → IsSubadditiveClosure f t (Fin zero_q)
service_closure R T t f hR hT start F = let (n, far) = enough zero_q t T hT in by_parts n far
  where
    nothing : (s : ℚ) → zero_q ≤ℚ s → s ≤ℚ T → f s ≡ Fin zero_q
    nothing s p l =
        let e : max_q zero_q (s -ℚ T) ≡ zero_q =
        antisym (max_q_le zero_q (s -ℚ T) zero_q (le_refl zero_q) (with2 s T (λ c. omega (arith, c.le, c.lt, c.same))), max_q_ge_left zero_q (s -ℚ T)) in
        F.is s p ∙ ap Fin (ap (λ x. R *ℚ x) e ∙ mul_zero R)

    some : (s : ℚ) → zero_q ≤ℚ s → Fin zero_q ≤ₑ f s
    some s p = rw (F.is s p) (mul_nonneg hR (max_q_ge_left zero_q (s -ℚ T)))

    all_some : (xs : List ℚ) → AllNonneg xs → Fin zero_q ≤ₑ sum_at f xs
    all_some [] h = le_refl zero_q
    all_some (x ∷ xs) h = both (f x) (sum_at f xs) (some x h.0) (all_some xs h.1)
      where
        both : (v w : Ext) → Fin zero_q ≤ₑ v → Fin zero_q ≤ₑ w → Fin zero_q ≤ₑ v +ₑ w
        both Inf w h k = tt
        both (Fin v) Inf h k = tt
        both (Fin v) (Fin w) h k = with2 v w (λ c. omega (arith, c.le, c.lt, c.same))

    again : ℕ → ℚ → List ℚ
    again zero x = []
    again (suc n) x = x ∷ again n x

    again_nonneg : (n : ℕ) (x : ℚ) → zero_q ≤ℚ x → AllNonneg (again n x)
    again_nonneg zero x h = tt
    again_nonneg (suc n) x h = (h, again_nonneg n x h)

    again_sum : (n : ℕ) (x : ℚ) → sum_of (again n x) ≡ int (pos n) *ℚ x
    again_sum zero x = with1 x (λ c. omega (arith, c.le, c.lt, c.same))
    again_sum (suc n) x =
        let o = one_more_times n x in
        ap (λ s. x +ℚ s) (again_sum n x) ∙ with3 x (int (pos n) *ℚ x) (int (pos (suc n)) *ℚ x) (λ c. omega (arith, c.le, c.lt, c.same))

    again_nothing : (n : ℕ) (x : ℚ) → f x ≡ Fin zero_q → sum_at f (again n x) ≡ Fin zero_q
    again_nothing zero x e = refl
    again_nothing (suc n) x e = rw (e, again_nothing n x e) (ap Fin (with1 zero_q (λ c. omega (arith, c.le, c.lt, c.same))))

    by_part : (n : ℕ) (x : ℚ) → zero_q ≤ℚ x → x ≤ℚ T → int (pos (suc n)) *ℚ x ≡ t → IsSubadditiveClosure f t (Fin zero_q)
    by_part n x p l e =
        let none = again_nothing (suc n) x (nothing x p l) in
        subst (λ v. IsSubadditiveClosure f t v) none
        (least_member {I = Parts t} (λ p. sum_at f (p.first ∷ p.others))
        record { first = x; others = again n x; nonneg = again_nonneg (suc n) x p; whole = again_sum (suc n) x ∙ e }
        (λ q. rw none (all_some (q.first ∷ q.others) q.nonneg)))

    by_parts : (n : ℕ) → t ≤ℚ zero_q +ℚ int (pos n) *ℚ T → IsSubadditiveClosure f t (Fin zero_q)
    by_parts n far =
        let k = int (pos (suc n)) in
        let m = nat_next n in
        let low = nat_nonneg n in
        let k_pos : zero_q <ℚ k = with2 k (int (pos n)) (λ c. omega (arith, c.le, c.lt, c.same)) in
        let x = t /ℚ k in
        let e : x *ℚ k ≡ t = div_mul t k (not_zero k k_pos) in
        let z : zero_q *ℚ k ≡ zero_q = mul_comm zero_q k ∙ mul_zero k in
        let o = one_more_times n T in
        let w = mul_comm T k in
        let more : t ≤ℚ T *ℚ k = with5 t T (int (pos n) *ℚ T) (k *ℚ T) (T *ℚ k) (λ c. omega (arith, c.le, c.lt, c.same)) in
        by_part n x (le_of_mul k zero_q x k_pos (rw (z, e) start)) (le_of_mul k x T k_pos (rw e more)) (mul_comm k x ∙ e)

-- ---- a bucket is subadditive
pub bucket_subadditive : (b r : ℚ) (f : ℚ → Ext) → zero_q ≤ℚ b → IsBucket b r f → IsSubadditive f
bucket_subadditive b r f hb F s u p q =
    let e = mul_add r s u in
    rw (F.is (s +ℚ u) (with2 s u (λ c. omega (arith, c.le, c.lt, c.same))), F.is s p, F.is u q)
    (with4 b (r *ℚ s) (r *ℚ u) (r *ℚ (s +ℚ u)) (λ c. omega (arith, c.le, c.lt, c.same)))
