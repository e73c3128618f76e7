-- The sums of n values of a point, and of a line on an open stretch.
use Rattle.std.specs.Prelude.{◌≡◌, ℕ, zero, suc, pos, List, [], ◌∷◌, length}
use Rattle.std.proofs.Common.{arith, sym, refl, ap, ◌∙◌, subst, inl, inr}
use Rattle.rational.specs.Rational.{ℚ, ◌+ℚ◌, ◌*ℚ◌, ◌/ℚ◌, ◌≤ℚ◌, ◌<ℚ◌, int}
use Rattle.rational.specs.Extended.{Ext, ◌≤ₑ◌, ◌<ₑ◌, ◌+ₑ◌}
use Rattle.rational.specs.declared.Extended.TheVariants.{Fin, Inf}
use Rattle.rational.proofs.Linear.{with1, with2, with3, with4, with5, with6, with8}
use Rattle.rational.proofs.Integers.{nat_lt}
use Rattle.rational.proofs.Laws.{antisym, le_trans, le_of_lt, zero_mul, mul_zero, one_mul, mul_add, mul_comm, mul_assoc, mul_lt_mul, lt_of_mul, div_mul, not_zero}
use Rattle.rational.proofs.Whole.{one_more_times}
use Rattle.rational.proofs.ExtendedOrder.{finite_sum, fin_same, le_inf}
use Rattle.upp_curve.specs.declared.affine_segment.line.Line.{Line}
use Rattle.upp_curve.specs.declared.affine_segment.element.Element.{Element}
use Rattle.upp_curve.specs.declared.affine_segment.element.Element.TheVariants.{Point, Open}
use Rattle.upp_curve.specs.affine_segment.Elements.{Covers, element_value}
use Rattle.upp_curve.proofs.affine_segment.ElementValues.{value_in, value_cases}
use Rattle.upp_curve.specs.affine_segment.Cuts.{IsWithin}
use Rattle.min_plus.specs.Functions.{zero_q}
use Rattle.min_plus.specs.Convolution.{Parts, AllNonneg, sum_of, sum_at}
use Rattle.subadd_closure.specs.ElementClosures.{Multiple, Turn, ClosureOfPoint, ClosureOfSegment}
use Rattle.min_plus.specs.closure_laws.Star.{nat_times}

-- ---- n equal times
-- x, n times over
abbrev pub repeated : ℕ → ℚ → List ℚ
repeated zero x = []
repeated (suc n) x = x ∷ repeated n x

pub repeated_nonneg : (n : ℕ) (x : ℚ) → zero_q ≤ℚ x → AllNonneg (repeated n x)
repeated_nonneg zero x h = tt
repeated_nonneg (suc n) x h = (h, repeated_nonneg n x h)

pub repeated_sum : (n : ℕ) (x : ℚ) → sum_of (repeated n x) ≡ nat_times n x
repeated_sum zero x = sym (zero_mul x)
repeated_sum (suc n) x =
    let h = repeated_sum n x in
    let k = one_more_times n x in
    swapped x (sum_of (repeated n x)) (nat_times n x) (nat_times (suc n) x) h k
  where
    swapped : (x s n k : ℚ) → s ≡ n → k ≡ n +ℚ x → x +ℚ s ≡ k
    swapped x s n k p q = antisym (with4 x s n k (λ c. omega (arith, c.le, c.lt, c.same)))

pub repeated_at : (f : ℚ → Ext) (n : ℕ) (x v : ℚ) → f x ≡ Fin v → sum_at f (repeated n x) ≡ Fin (nat_times n v)
repeated_at f zero x v e = ap Fin (sym (zero_mul v))
repeated_at f (suc n) x v e =
    let h = repeated_at f n x v e in
    let k = one_more_times n v in
    ap (λ z. z +ₑ sum_at f (repeated n x)) e ∙ ap (λ z. Fin v +ₑ z) h ∙ ap Fin (swapped v (nat_times n v) (nat_times (suc n) v) k)
  where
    swapped : (v n k : ℚ) → k ≡ n +ℚ v → v +ℚ n ≡ k
    swapped v n k q = antisym (with3 v n k (λ c. omega (arith, c.le, c.lt, c.same)))

-- n and one more times x make t
abbrev pub repeated_parts : (n : ℕ) (x t : ℚ) → zero_q ≤ℚ x → t ≡ nat_times (suc n) x → Parts t
repeated_parts n x t low is = record {
  first = x;
  others = repeated n x;
  nonneg = (low, repeated_nonneg n x low);
  whole = repeated_sum (suc n) x ∙ sym is;
}

-- ---- a point
covered : (e : Element) (x q : ℚ) → element_value e x ≡ Fin q → Covers e x
covered e x q h = elim (value_cases e x) [
  | inl none ↦ absurd (never (sym none ∙ h))
  | inr here ↦ here
]
  where
    never : Inf ≡ Fin q → ⊥
    never e = cc

-- times with a finite sum of a point's values are each the point's
point_whole : (a v : ℚ) (xs : List ℚ) (q : ℚ) → sum_at (element_value (Point a v)) xs ≡ Fin q
    → sum_of xs ≡ nat_times (length xs) a
point_whole a v [] q h = sym (zero_mul a)
point_whole a v (x ∷ xs) q h =
    let (b, c, f, g) = finite_sum (element_value (Point a v) x) (sum_at (element_value (Point a v)) xs) q h in
    let here : x ≡ a = covered (Point a v) x b f in
    let rest = point_whole a v xs c g in
    let next = one_more_times (length xs) a in
    added x a (sum_of xs) (nat_times (length xs) a) (nat_times (suc (length xs)) a) here rest next
  where
    added : (x a s n k : ℚ) → x ≡ a → s ≡ n → k ≡ n +ℚ a → x +ℚ s ≡ k
    added x a s n k e p q = antisym (with5 x a s n k (λ c. omega (arith, c.le, c.lt, c.same)))

point_total : (a v : ℚ) (xs : List ℚ) (q : ℚ) → sum_at (element_value (Point a v)) xs ≡ Fin q
    → q ≡ nat_times (length xs) v
point_total a v [] q h = fin_same (sym h) ∙ sym (zero_mul v)
point_total a v (x ∷ xs) q h =
    let (b, c, f, g) = finite_sum (element_value (Point a v) x) (sum_at (element_value (Point a v)) xs) q h in
    let here : x ≡ a = covered (Point a v) x b f in
    let level : b ≡ v = fin_same (sym f ∙ value_in (Point a v) x here) in
    let rest = point_total a v xs c g in
    let next = one_more_times (length xs) v in
    let whole : Fin q ≡ Fin (b +ℚ c) = sym h ∙ ap (λ z. z +ₑ sum_at (element_value (Point a v)) xs) f ∙ ap (λ z. Fin b +ₑ z) g in
    fin_same whole ∙ added b v c (nat_times (length xs) v) (nat_times (suc (length xs)) v) level rest next
  where
    added : (x a s n k : ℚ) → x ≡ a → s ≡ n → k ≡ n +ℚ a → x +ℚ s ≡ k
    added x a s n k e p q = antisym (with5 x a s n k (λ c. omega (arith, c.le, c.lt, c.same)))

pub closure_of_point : ClosureOfPoint
closure_of_point a v t w low h = record {
  below = λ p. under p (sum_at (element_value (Point a v)) (p.first ∷ p.others)) refl;
  near = λ y l. close y l;
}
  where
    under : (p : Parts t) (s : Ext) → sum_at (element_value (Point a v)) (p.first ∷ p.others) ≡ s → w ≤ₑ s
    under p Inf e = le_inf w
    under p (Fin q) e =
        let whole = point_whole a v (p.first ∷ p.others) q e in
        let total = point_total a v (p.first ∷ p.others) q e in
        let m : Multiple a t = record { less_one = length p.others; is = sym p.whole ∙ whole } in
        subst (λ z. w ≤ₑ Fin z) (sym total) (h.below m)

    close : (y : ℚ) → w <ₑ Fin y → (p : Parts t) × (sum_at (element_value (Point a v)) (p.first ∷ p.others) <ₑ Fin y)
    close y l =
        let (m, u) = h.near y l in (
          repeated_parts m.less_one a t low m.is,
          subst (λ z. z <ₑ Fin y) (sym (repeated_at (element_value (Point a v)) (suc m.less_one) a v (value_in (Point a v) a refl))) u,
        )

-- ---- a line on an open stretch
-- n and one more times are n and one more times their mean, which lies between a and b
record Mean (a : ℚ) (b : Ext) (less_one : ℕ) (s : ℚ) : Type 0 where
  share : ℚ
  is : s ≡ nat_times (suc less_one) share
  above : a <ℚ share
  below : Fin share <ₑ b

-- t divided by n and one more
shared : (n : ℕ) (t : ℚ) → (m : ℚ) × (t ≡ nat_times (suc n) m)
shared n t =
    let some : int (pos 0) <ℚ int (pos (suc n)) = nat_lt 0 (suc n) (omega arith) in
    (t /ℚ int (pos (suc n)), sym (div_mul t (int (pos (suc n))) (not_zero (int (pos (suc n))) some)) ∙ mul_comm (t /ℚ int (pos (suc n))) (int (pos (suc n))))

-- a is less than each, so less than the mean
mean_above : (n : ℕ) (a x s m : ℚ) → a <ℚ x → a <ℚ s → x +ℚ nat_times (suc n) s ≡ nat_times (suc (suc n)) m → a <ℚ m
mean_above n a x s m p q e =
    let some : int (pos 0) <ℚ int (pos (suc n)) = nat_lt 0 (suc n) (omega arith) in
    let more : int (pos 0) <ℚ int (pos (suc (suc n))) = nat_lt 0 (suc (suc n)) (omega arith) in
    let most : nat_times (suc n) a <ℚ nat_times (suc n) s = mul_lt_mul (int (pos (suc n))) some q in
    let next = one_more_times (suc n) a in
    lt_of_mul (int (pos (suc (suc n)))) a m more
    (subst (λ z. z <ℚ m *ℚ int (pos (suc (suc n)))) (mul_comm (int (pos (suc (suc n)))) a)
    (subst (λ z. nat_times (suc (suc n)) a <ℚ z) (mul_comm (int (pos (suc (suc n)))) m)
    (less a x (nat_times (suc n) a) (nat_times (suc n) s) (nat_times (suc (suc n)) a) (nat_times (suc (suc n)) m) p most next e)))
  where
    less : (a x na ns ka km : ℚ) → a <ℚ x → na <ℚ ns → ka ≡ na +ℚ a → x +ℚ ns ≡ km → ka <ℚ km
    less a x na ns ka km p q e f = with6 a x na ns ka km (λ c. omega (arith, c.le, c.lt, c.same))

mean_below : (n : ℕ) (a x s m : ℚ) → x <ℚ a → s <ℚ a → x +ℚ nat_times (suc n) s ≡ nat_times (suc (suc n)) m → m <ℚ a
mean_below n a x s m p q e =
    let some : int (pos 0) <ℚ int (pos (suc n)) = nat_lt 0 (suc n) (omega arith) in
    let more : int (pos 0) <ℚ int (pos (suc (suc n))) = nat_lt 0 (suc (suc n)) (omega arith) in
    let most : nat_times (suc n) s <ℚ nat_times (suc n) a = mul_lt_mul (int (pos (suc n))) some q in
    let next = one_more_times (suc n) a in
    lt_of_mul (int (pos (suc (suc n)))) m a more
    (subst (λ z. z <ℚ a *ℚ int (pos (suc (suc n)))) (mul_comm (int (pos (suc (suc n)))) m)
    (subst (λ z. nat_times (suc (suc n)) m <ℚ z) (mul_comm (int (pos (suc (suc n)))) a)
    (less a x (nat_times (suc n) a) (nat_times (suc n) s) (nat_times (suc (suc n)) a) (nat_times (suc (suc n)) m) p most next e)))
  where
    less : (a x na ns ka km : ℚ) → x <ℚ a → ns <ℚ na → ka ≡ na +ℚ a → x +ℚ ns ≡ km → km <ℚ ka
    less a x na ns ka km p q e f = with6 a x na ns ka km (λ c. omega (arith, c.le, c.lt, c.same))

mean_within : (n : ℕ) (b : Ext) (x s m : ℚ) → Fin x <ₑ b → Fin s <ₑ b → x +ℚ nat_times (suc n) s ≡ nat_times (suc (suc n)) m
    → Fin m <ₑ b
mean_within n Inf x s m p q e = tt
mean_within n (Fin b) x s m p q e = mean_below n b x s m p q e

mean_more : (a : ℚ) (b : Ext) (n : ℕ) (x s : ℚ) → IsWithin a b x → Mean a b n s → Mean a b (suc n) (x +ℚ s)
mean_more a b n x s w r =
    let (m, e) = shared (suc n) (x +ℚ s) in
    let same : x +ℚ nat_times (suc n) r.share ≡ nat_times (suc (suc n)) m = ap (λ z. x +ℚ z) (sym r.is) ∙ e in
    record {
      share = m;
      is = e;
      above = mean_above n a x r.share m w.past r.above same;
      below = mean_within n b x r.share m w.before r.below same;
    }

mean_one : (a : ℚ) (b : Ext) (x : ℚ) → IsWithin a b x → Mean a b 0 (x +ℚ zero_q)
mean_one a b x w = record {
  share = x;
  is = antisym (with1 x (λ c. omega (arith, c.le, c.lt, c.same, one_mul x)));
  above = w.past;
  below = w.before;
}

-- times with a finite sum of a line's values lie in its stretch, and so does their mean
segment_mean : (a : ℚ) (b : Ext) (l : Line) (x : ℚ) (xs : List ℚ) (q : ℚ)
    → sum_at (element_value (Open a b l)) (x ∷ xs) ≡ Fin q → Mean a b (length xs) (sum_of (x ∷ xs))
segment_mean a b l x [] q h =
    let (u, v, f, g) = finite_sum (element_value (Open a b l) x) (Fin zero_q) q h in
    mean_one a b x (covered (Open a b l) x u f)
segment_mean a b l x (y ∷ ys) q h =
    let (u, v, f, g) = finite_sum (element_value (Open a b l) x) (sum_at (element_value (Open a b l)) (y ∷ ys)) q h in
    mean_more a b (length ys) x (sum_of (y ∷ ys)) (covered (Open a b l) x u f) (segment_mean a b l y ys v g)

segment_total : (a : ℚ) (b : Ext) (l : Line) (xs : List ℚ) (q : ℚ) → sum_at (element_value (Open a b l)) xs ≡ Fin q
    → q ≡ nat_times (length xs) l.icept +ℚ l.slope *ℚ sum_of xs
segment_total a b l [] q h =
    fin_same (sym h) ∙ none (nat_times 0 l.icept) (l.slope *ℚ zero_q) (zero_mul l.icept) (mul_zero l.slope)
  where
    none : (x y : ℚ) → x ≡ zero_q → y ≡ zero_q → zero_q ≡ x +ℚ y
    none x y p q = antisym (with2 x y (λ c. omega (arith, c.le, c.lt, c.same)))
segment_total a b l (x ∷ xs) q h =
    let (u, v, f, g) = finite_sum (element_value (Open a b l) x) (sum_at (element_value (Open a b l)) xs) q h in
    let here = covered (Open a b l) x u f in
    let level : u ≡ l.icept +ℚ l.slope *ℚ x = fin_same (sym f ∙ value_in (Open a b l) x here) in
    let rest = segment_total a b l xs v g in
    let next = one_more_times (length xs) l.icept in
    let over = mul_add l.slope x (sum_of xs) in
    let whole : Fin q ≡ Fin (u +ℚ v) = sym h ∙ ap (λ z. z +ₑ sum_at (element_value (Open a b l)) xs) f ∙ ap (λ z. Fin u +ₑ z) g in
    fin_same whole ∙ added u v l.icept (l.slope *ℚ x) (nat_times (length xs) l.icept) (l.slope *ℚ sum_of xs) (nat_times (suc (length xs)) l.icept) (l.slope *ℚ (x +ℚ sum_of xs)) level rest next over
  where
    added : (u v k r n s m o : ℚ) → u ≡ k +ℚ r → v ≡ n +ℚ s → m ≡ n +ℚ k → o ≡ r +ℚ s → u +ℚ v ≡ m +ℚ o
    added u v k r n s m o e f p q = antisym (with8 u v k r n s m o (λ c. omega (arith, c.le, c.lt, c.same)))

pub closure_of_segment : ClosureOfSegment
closure_of_segment a b l t w low h = record {
  below = λ p. under p (sum_at (element_value (Open a b l)) (p.first ∷ p.others)) refl;
  near = λ y k. close y k;
}
  where
    under : (p : Parts t) (s : Ext) → sum_at (element_value (Open a b l)) (p.first ∷ p.others) ≡ s → w ≤ₑ s
    under p Inf e = le_inf w
    under p (Fin q) e =
        let mean = segment_mean a b l p.first p.others q e in
        let total = segment_total a b l (p.first ∷ p.others) q e in
        let m : Turn a b t = record {
          less_one = length p.others;
          share = mean.share;
          is = sym p.whole ∙ mean.is;
          above = mean.above;
          below = mean.below;
        } in
        subst (λ z. w ≤ₑ Fin z) (sym (total ∙ ap (λ z. nat_times (suc (length p.others)) l.icept +ℚ l.slope *ℚ z) p.whole)) (h.below m)

    -- n and one more values at the share
    value : (m : Turn a b t) → sum_at (element_value (Open a b l)) (repeated (suc m.less_one) m.share)
        ≡ Fin (nat_times (suc m.less_one) l.icept +ℚ l.slope *ℚ t)
    value m =
        let n = int (pos (suc m.less_one)) in
        repeated_at (element_value (Open a b l)) (suc m.less_one) m.share (l.icept +ℚ l.slope *ℚ m.share)
        (value_in (Open a b l) m.share record { past = m.above; before = m.below })
        ∙ ap Fin (mul_add n l.icept (l.slope *ℚ m.share) ∙ ap (λ z. n *ℚ l.icept +ℚ z) (turned n l.slope m.share ∙ ap (λ z. l.slope *ℚ z) (sym m.is)))
      where
        turned : (n r s : ℚ) → n *ℚ (r *ℚ s) ≡ r *ℚ (n *ℚ s)
        turned n r s = sym (mul_assoc n r s) ∙ ap (λ z. z *ℚ s) (mul_comm n r) ∙ mul_assoc r n s

    close : (y : ℚ) → w <ₑ Fin y → (p : Parts t) × (sum_at (element_value (Open a b l)) (p.first ∷ p.others) <ₑ Fin y)
    close y k =
        let (m, u) = h.near y k in
        (repeated_parts m.less_one m.share t (le_trans low (le_of_lt m.above)) m.is, subst (λ z. z <ₑ Fin y) (sym (value m)) u)
