-- Parts of a convolution some periods later, and the number of periods from the gap of both parts over one.
use Rattle.std.specs.Prelude.{◌≡◌, ◌⊎◌, ℕ, suc, zero, pos}
use Rattle.std.proofs.Common.{arith, sym, ap, ◌∙◌, subst, inl, inr}
use Rattle.rational.specs.Rational.{ℚ, ◌+ℚ◌, ◌-ℚ◌, ◌*ℚ◌, ◌≤ℚ◌, ◌<ℚ◌, int}
use Rattle.rational.specs.Extended.{Ext, ◌≤ₑ◌, ◌+ₑ◌}
use Rattle.rational.specs.declared.Extended.TheVariants.{Fin, Inf}
use Rattle.rational.proofs.Linear.{with1, with2, with3, with4}
use Rattle.rational.proofs.Laws.{le_refl, le_trans, le_or_lt, lt_irrefl, le_lt_trans, mul_nonneg, mul_sub, sub_add, zero_mul}
use Rattle.rational.proofs.Integers.{nat_nonneg}
use Rattle.rational.proofs.Whole.{one_more_times}
use Rattle.rational.proofs.ExtendedOrder.{le_inf, le_ext_trans, add_assoc_ext, add_zero_ext}
use Rattle.rational.proofs.Bounds.{greatest}
use Rattle.upp_limits.specs.Periods.{periods_after}
use Rattle.upp_curve.specs.Steady.{Repeats}
use Rattle.upp_limits.specs.Windows.{IsLateLeast}
use Rattle.curve_call.specs.Gaps.{InWindow, IsWithin}
use Rattle.curve_conv.specs.Parts.{part_sum, IsPart, FirstLate, FirstEarly}
use Rattle.curve_conv.specs.PartGaps.{ArePartValues, HavePartValues}
use Rattle.curve_conv.proofs.Moves.{AreRising, late_moves, early_moves}
use Rattle.curve_call.proofs.Shifts.{shift_in, shift_out}

-- ---- some periods later
times_more : (n : ℕ) (t d : ℚ) → t +ℚ int (pos (suc n)) *ℚ d ≡ (t +ℚ int (pos n) *ℚ d) +ℚ d
times_more n t d = ap (λ y. t +ℚ y) (one_more_times n d) ∙ (let y = int (pos n) *ℚ d in with3 t y d (λ c. omega (arith, c.le, c.lt, c.same)))

risen_more : (n : ℕ) (v : Ext) (a : ℚ) → v +ₑ Fin (int (pos (suc n)) *ℚ a) ≡ (v +ₑ Fin (int (pos n) *ℚ a)) +ₑ Fin a
risen_more n v a = ap (λ y. v +ₑ Fin y) (one_more_times n a) ∙ sym (add_assoc_ext v (int (pos n) *ℚ a) a)

far : (n : ℕ) (from t d : ℚ) → int (pos 0) ≤ℚ d → from ≤ℚ t → from ≤ℚ t +ℚ int (pos n) *ℚ d
far n from t d some h = let y = int (pos n) *ℚ d in let low : int (pos 0) ≤ℚ y = mul_nonneg (nat_nonneg n) some in with3 from t y (λ c. omega (arith, c.le, c.lt, c.same))

none_later : (t d : ℚ) → t ≡ t +ℚ int (pos 0) *ℚ d
none_later t d = with2 t d (λ c. omega (arith, c.le, c.lt, c.same))

none_risen : (v : Ext) (a : ℚ) → v ≡ v +ₑ Fin (int (pos 0) *ℚ a)
none_risen v a = sym (ap (λ y. v +ₑ Fin y) (zero_mul a) ∙ add_zero_ext v)

-- a relation that moves by one period moves by some
moved : (R : ℚ → Ext → Type 0) (d a from t : ℚ) (v : Ext) (n : ℕ) → int (pos 0) ≤ℚ d → from ≤ℚ t → ((u : ℚ) (w : Ext) → from ≤ℚ u → R u w → R (u +ℚ d) (w +ₑ Fin a)) → R t v
    → R (t +ℚ int (pos n) *ℚ d) (v +ₑ Fin (int (pos n) *ℚ a))
moved R d a from t v zero some h step r = subst (λ u. R u (v +ₑ Fin (int (pos 0) *ℚ a))) (none_later t d) (subst (R t) (none_risen v a) r)
moved R d a from t v (suc n) some h step r =
    subst (λ u. R u (v +ₑ Fin (int (pos (suc n)) *ℚ a))) (sym (times_more n t d))
    (subst (R ((t +ℚ int (pos n) *ℚ d) +ℚ d)) (sym (risen_more n v a)) (step (t +ℚ int (pos n) *ℚ d) (v +ₑ Fin (int (pos n) *ℚ a)) (far n from t d some h) (moved R d a from t v n some h step r)))

-- ---- both parts
-- two functions that repeat, the second rising by at least as much
pub record AreParts (f g : ℚ → Ext) (first second d slow fast from : ℚ) : Type 0 where
  pub rising : AreRising f g first second d slow
  pub right : Repeats g second d fast
  pub late : first +ℚ second +ℚ d ≤ℚ from

sum_late : (f g : ℚ → Ext) (first second d slow fast from : ℚ) → AreParts f g first second d slow fast from → first +ℚ second ≤ℚ from
sum_late f g first second d slow fast from P = let some = P.rising.some in let l = P.late in with4 first second d from (λ c. omega (arith, c.le, c.lt, c.same))

pub late_later : (f g : ℚ → Ext) (first second d slow fast from t : ℚ) (v : Ext) (k : ℕ) → AreParts f g first second d slow fast from → from ≤ℚ t → IsPart f g (FirstLate first) t v
    → IsPart f g (FirstLate first) (t +ℚ int (pos k) *ℚ d) (v +ₑ Fin (int (pos k) *ℚ slow))
late_later f g first second d slow fast from t v k P h r =
    moved (IsPart f g (FirstLate first)) d slow from t v k P.rising.some h (λ u w l q. late_moves f g first second d slow u w P.rising (le_trans P.late l) q) r

early_later : (f g : ℚ → Ext) (first second d slow fast from t : ℚ) (v : Ext) (k : ℕ) → AreParts f g first second d slow fast from → from ≤ℚ t → IsPart f g (FirstEarly first second) t v
    → IsPart f g (FirstEarly first second) (t +ℚ int (pos k) *ℚ d) (v +ₑ Fin (int (pos k) *ℚ fast))
early_later f g first second d slow fast from t v k P h r =
    moved (IsPart f g (FirstEarly first second)) d fast from t v k P.rising.some h
    (λ u w l q. early_moves f g first second d fast u w P.rising.some P.rising.second_low P.right (le_trans (sum_late f g first second d slow fast from P) l) q) r

-- ---- what the gap bounds

by_bounds : (x z : Ext) → ((b : ℚ) → Fin b ≤ₑ x → Fin b ≤ₑ z) → x ≤ₑ z
by_bounds x Inf h = le_inf x
by_bounds Inf (Fin z) h = let l = h (z +ℚ int (pos 1)) tt in absurd (with1 z (λ c. omega (arith, c.le, c.lt, c.same)))
by_bounds (Fin x) (Fin z) h = h x (le_refl x)

-- a time of the k-th period after `from` as one of the first
pub record Back (from d t : ℚ) (k : ℕ) : Type 0 where
  pub at : ℚ
  pub is : at +ℚ int (pos k) *ℚ d ≡ t
  pub in_window : InWindow from (from +ℚ d) at

pub back : (from d t : ℚ) (k : ℕ) → periods_after from k d ≤ℚ t → t <ℚ periods_after from k d +ℚ d → Back from d t k
back from d t k h l =
    let y = int (pos k) *ℚ d in
    record {
      at = t -ℚ y;
      is = sub_add t y;
      in_window = record { start = with3 from t y (λ c. omega (arith, c.le, c.lt, c.same)); before = with4 from t y d (λ c. omega (arith, c.le, c.lt, c.same)) };
    }

late_at : (f g : ℚ → Ext) (first second t : ℚ) (v w : Ext) → IsPart f g (FirstLate first) t v → IsPart f g (FirstEarly first second) t w → v ≤ₑ w → IsLateLeast f g first second t
late_at f g first second t v w V W h b below s early after =
    le_ext_trans (Fin b) v (f s.first +ₑ g s.second) (greatest (part_sum f g (FirstLate first) t) v (Fin b) V (λ i. below i.split i.inside))
    (le_ext_trans v w (f s.first +ₑ g s.second) h (W.below record { split = s; inside = (early, after) }))

late_out : (f g : ℚ → Ext) (first second t : ℚ) (v w : Ext) → IsPart f g (FirstLate first) t v → IsPart f g (FirstEarly first second) t w → IsLateLeast f g first second t → v ≤ₑ w
late_out f g first second t v w V W L =
    greatest (part_sum f g (FirstEarly first second) t) w v W
    (λ i. by_bounds v (part_sum f g (FirstEarly first second) t i)
    (λ b l. L b (λ s h. le_ext_trans (Fin b) v (f s.first +ₑ g s.second) l (V.below record { split = s; inside = h })) i.split i.inside.0 i.inside.1))

pub after_in : (f g : ℚ → Ext) (first second d slow fast from : ℚ) (a b : ℚ → Ext) (k : ℕ) → AreParts f g first second d slow fast from → ArePartValues f g first second from (from +ℚ d) a b
    → IsWithin (InWindow from (from +ℚ d)) a b (int (pos k) *ℚ (fast -ℚ slow)) → (t : ℚ) → periods_after from k d ≤ℚ t → t <ℚ periods_after from k d +ℚ d → IsLateLeast f g first second t
after_in f g first second d slow fast from a b k P V W t h l =
    let B = back from d t k h l in
    let u = B.at in
    let i = B.in_window in
    subst (IsLateLeast f g first second) B.is
    (late_at f g first second (u +ℚ int (pos k) *ℚ d) (a u +ₑ Fin (int (pos k) *ℚ slow)) (b u +ₑ Fin (int (pos k) *ℚ fast))
    (late_later f g first second d slow fast from u (a u) k P i.start (V.late u i)) (early_later f g first second d slow fast from u (b u) k P i.start (V.soon u i))
    (shift_in (a u) (b u) (int (pos k) *ℚ slow) (int (pos k) *ℚ fast) (subst (λ y. a u ≤ₑ b u +ₑ Fin y) (mul_sub (int (pos k)) fast slow) (W u i))))

pub after_out : (f g : ℚ → Ext) (first second d slow fast from : ℚ) (a b : ℚ → Ext) (k : ℕ) → AreParts f g first second d slow fast from → ArePartValues f g first second from (from +ℚ d) a b
    → ((t : ℚ) → periods_after from k d ≤ℚ t → t <ℚ periods_after from k d +ℚ d → IsLateLeast f g first second t) → IsWithin (InWindow from (from +ℚ d)) a b (int (pos k) *ℚ (fast -ℚ slow))
after_out f g first second d slow fast from a b k P V L u i =
    let y = int (pos k) *ℚ d in
    let start = i.start in
    let before = i.before in
    subst (λ q. a u ≤ₑ b u +ₑ Fin q) (sym (mul_sub (int (pos k)) fast slow))
    (shift_out (a u) (b u) (int (pos k) *ℚ slow) (int (pos k) *ℚ fast)
    (late_out f g first second (u +ℚ y) (a u +ₑ Fin (int (pos k) *ℚ slow)) (b u +ₑ Fin (int (pos k) *ℚ fast))
    (late_later f g first second d slow fast from u (a u) k P i.start (V.late u i)) (early_later f g first second d slow fast from u (b u) k P i.start (V.soon u i))
    (L (u +ℚ y) (with3 from u y (λ c. omega (arith, c.le, c.lt, c.same))) (with4 from u y d (λ c. omega (arith, c.le, c.lt, c.same))))))

-- ---- values as functions
pick : (from end t : ℚ) → (InWindow from end t → Ext) → (from ≤ℚ t) ⊎ (t <ℚ from) → (end ≤ℚ t) ⊎ (t <ℚ end) → Ext
pick from end t v (inl h) (inr k) = v record { start = h; before = k }
pick from end t v (inl h) (inl k) = Inf
pick from end t v (inr h) k = Inf

picked : (from end t : ℚ) (P : Ext → Type 0) (v : InWindow from end t → Ext) → ((i : InWindow from end t) → P (v i)) → InWindow from end t → (x : (from ≤ℚ t) ⊎ (t <ℚ from)) (y : (end ≤ℚ t) ⊎ (t <ℚ end)) → P (pick from end t v x y)
unfolding pick
picked from end t P v h i (inl a) (inr b) = h record { start = a; before = b }
picked from end t P v h i (inl a) (inl b) = absurd (lt_irrefl end (le_lt_trans b i.before))
picked from end t P v h i (inr a) y = absurd (lt_irrefl from (le_lt_trans i.start a))

-- ---- the two functions
pub late_value : (f g : ℚ → Ext) (first second from end : ℚ) → ((t : ℚ) → InWindow from end t → HavePartValues f g first second t) → ℚ → Ext
late_value f g first second from end V t = pick from end t (λ i. (V t i).late.0) (le_or_lt from t) (le_or_lt end t)

pub soon_value : (f g : ℚ → Ext) (first second from end : ℚ) → ((t : ℚ) → InWindow from end t → HavePartValues f g first second t) → ℚ → Ext
soon_value f g first second from end V t = pick from end t (λ i. (V t i).soon.0) (le_or_lt from t) (le_or_lt end t)

pub values_are : (f g : ℚ → Ext) (first second from end : ℚ) (V : (t : ℚ) → InWindow from end t → HavePartValues f g first second t)
    → ArePartValues f g first second from end (late_value f g first second from end V) (soon_value f g first second from end V)
unfolding late_value soon_value
values_are f g first second from end V = record {
  late = λ t i. picked from end t (IsPart f g (FirstLate first) t) (λ i. (V t i).late.0) (λ i. (V t i).late.1) i (le_or_lt from t) (le_or_lt end t);
  soon = λ t i. picked from end t (IsPart f g (FirstEarly first second) t) (λ i. (V t i).soon.0) (λ i. (V t i).soon.1) i (le_or_lt from t) (le_or_lt end t);
}
