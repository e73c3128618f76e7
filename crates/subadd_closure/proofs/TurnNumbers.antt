-- Which numbers n have a time between n a and n b, and where their least sum is the closure of a segment.
use Rattle.std.specs.Prelude.{◌≡◌, ℕ, suc, ◌≤◌, pos}
use Rattle.std.proofs.Common.{arith, sym, ◌∙◌, subst, inl, inr}
use Rattle.rational.specs.Rational.{ℚ, ◌+ℚ◌, ◌*ℚ◌, ◌/ℚ◌, ◌≤ℚ◌, ◌<ℚ◌, int, neg_ℚ}
use Rattle.rational.specs.Extended.{Ext, ◌≤ₑ◌, ◌<ₑ◌}
use Rattle.rational.specs.declared.Extended.TheVariants.{Fin, Inf}
use Rattle.rational.proofs.Laws.{le_trans, le_lt_trans, lt_le_trans, lt_irrefl, mul_comm, mul_le_mul_right, mul_lt_mul, lt_of_mul, div_mul, not_zero, mul_neg}
use Rattle.rational.proofs.Integers.{nat_le, le_or_more}
use Rattle.rational.proofs.Bounds.{least_member, all_infinite}
use Rattle.rational.proofs.Linear.{with1, with3, with4}
use Rattle.upp_curve.specs.declared.affine_segment.line.Line.{Line}
use Rattle.upp_curve.specs.affine_segment.Values.{line_at}
use Rattle.min_plus.specs.Functions.{zero_q}
use Rattle.subadd_closure.specs.ElementClosures.{Turn, IsSegmentClosure}
use Rattle.subadd_closure.specs.ElementCurves.{line_times, ext_times}
use Rattle.rational.proofs.Grain.{some_int}
use Rattle.rational.proofs.ExtendedOrder.{not_past}
use Rattle.min_plus.specs.closure_laws.Star.{nat_times}

-- ---- the two forms of a turn
pub share_back : (n : ℕ) (t : ℚ) → nat_times (suc n) (t /ℚ int (pos (suc n))) ≡ t
share_back n t =
    mul_comm (int (pos (suc n))) (t /ℚ int (pos (suc n))) ∙ div_mul t (int (pos (suc n))) (not_zero (int (pos (suc n))) (some_int n))

pub less_in : (n : ℕ) (x y : ℚ) → nat_times (suc n) x <ℚ nat_times (suc n) y → x <ℚ y
less_in n x y h =
    lt_of_mul (int (pos (suc n))) x y (some_int n)
    (subst (λ z. z <ℚ y *ℚ int (pos (suc n))) (mul_comm (int (pos (suc n))) x)
    (subst (λ z. nat_times (suc n) x <ℚ z) (mul_comm (int (pos (suc n))) y) h))

pub before_in : (n : ℕ) (b : Ext) (t : ℚ) → Fin t <ₑ ext_times (suc n) b → Fin (t /ℚ int (pos (suc n))) <ₑ b
before_in n Inf t h = tt
before_in n (Fin b) t h =
    less_in n (t /ℚ int (pos (suc n))) b (subst (λ z. z <ℚ nat_times (suc n) b) (sym (share_back n t)) h)

abbrev pub turn_in : (a : ℚ) (b : Ext) (t : ℚ) (n : ℕ) → nat_times (suc n) a <ℚ t → Fin t <ₑ ext_times (suc n) b → Turn a b t
turn_in a b t n h k = record {
  less_one = n;
  share = t /ℚ int (pos (suc n));
  is = sym (share_back n t);
  above = less_in n a (t /ℚ int (pos (suc n))) (subst (λ z. nat_times (suc n) a <ℚ z) (sym (share_back n t)) h);
  below = before_in n b t k;
}

pub turn_above : (a : ℚ) (b : Ext) (t : ℚ) (u : Turn a b t) → nat_times (suc u.less_one) a <ℚ t
turn_above a b t u =
    subst (λ z. nat_times (suc u.less_one) a <ℚ z) (sym u.is) (mul_lt_mul (int (pos (suc u.less_one))) (some_int u.less_one) u.above)

below_out : (b : Ext) (n : ℕ) (s : ℚ) → Fin s <ₑ b → Fin (nat_times (suc n) s) <ₑ ext_times (suc n) b
below_out Inf n s h = tt
below_out (Fin b) n s h = mul_lt_mul (int (pos (suc n))) (some_int n) h

pub turn_below : (a : ℚ) (b : Ext) (t : ℚ) (u : Turn a b t) → Fin t <ₑ ext_times (suc u.less_one) b
turn_below a b t u =
    subst (λ z. Fin z <ₑ ext_times (suc u.less_one) b) (sym u.is) (below_out b u.less_one u.share u.below)

-- ---- the order of numbers by their times

-- up to n a there are turns below n alone
pub fewer : (a : ℚ) (b : Ext) (t : ℚ) (n : ℕ) → zero_q ≤ℚ a → t ≤ℚ nat_times n a → (u : Turn a b t) → suc (suc u.less_one) ≤ n
fewer a b t n low h u = elim (le_or_more n (suc u.less_one)) [
  | inl k ↦
      let m : nat_times n a ≤ℚ nat_times (suc u.less_one) a = mul_le_mul_right a low (nat_le n (suc u.less_one) k) in
      absurd (lt_irrefl t (le_lt_trans (le_trans h m) (turn_above a b t u)))
  | inr k ↦ k
]

ext_more : (b : Ext) (m n : ℕ) (t : ℚ) → Fin zero_q ≤ₑ b → m ≤ n → Fin t <ₑ ext_times m b → Fin t <ₑ ext_times n b
ext_more Inf m n t low h k = tt
ext_more (Fin b) m n t low h k = lt_le_trans k (mul_le_mul_right b low (nat_le m n h))

-- from n b on there are turns above n alone
pub more : (a : ℚ) (b : Ext) (t : ℚ) (n : ℕ) → Fin zero_q ≤ₑ b → ext_times n b ≤ₑ Fin t → (u : Turn a b t) → suc n ≤ suc u.less_one
more a b t n low h u = elim (le_or_more (suc u.less_one) n) [
  | inl k ↦ absurd (not_past (ext_times n b) t h (ext_more b (suc u.less_one) n t low k (turn_below a b t u)))
  | inr k ↦ k
]

-- ---- the closure by a turn
pub least_turn : (a : ℚ) (b : Ext) (l : Line) (t : ℚ) (n : ℕ) → nat_times (suc n) a <ℚ t → Fin t <ₑ ext_times (suc n) b
    → ((u : Turn a b t) → nat_times (suc n) l.icept ≤ℚ nat_times (suc u.less_one) l.icept)
    → IsSegmentClosure a b l t (Fin (line_at (line_times (suc n) l) t))
least_turn a b l t n h k least =
    least_member (λ (u : Turn a b t). Fin (nat_times (suc u.less_one) l.icept +ℚ l.slope *ℚ t)) (turn_in a b t n h k)
    (λ u. let x = least u in raised (nat_times (suc n) l.icept) (nat_times (suc u.less_one) l.icept) (l.slope *ℚ t) x)
  where
    raised : (x y z : ℚ) → x ≤ℚ y → x +ℚ z ≤ℚ y +ℚ z
    raised x y z h = with3 x y z (λ c. omega (arith, c.le, c.lt, c.same))

pub no_turn : (a : ℚ) (b : Ext) (l : Line) (t : ℚ) → ¬ (Turn a b t) → IsSegmentClosure a b l t Inf
no_turn a b l t none =
    all_infinite (λ (u : Turn a b t). Fin (nat_times (suc u.less_one) l.icept +ℚ l.slope *ℚ t)) (λ u. absurd (none u))

-- the least and the greatest number
pub least_up : (k : ℚ) (m n : ℕ) → zero_q ≤ℚ k → m ≤ n → nat_times m k ≤ℚ nat_times n k
least_up k m n low h = mul_le_mul_right k low (nat_le m n h)

pub least_down : (k : ℚ) (m n : ℕ) → k ≤ℚ zero_q → n ≤ m → nat_times m k ≤ℚ nat_times n k
least_down k m n high h =
    let up : zero_q ≤ℚ neg_ℚ k = with1 k (λ c. omega (arith, c.le, c.lt, c.same)) in
    let x = mul_le_mul_right (neg_ℚ k) up (nat_le n m h) in
    let p = mul_neg (int (pos n)) k in
    let q = mul_neg (int (pos m)) k in
    turned (nat_times m k) (nat_times n k) (nat_times m (neg_ℚ k)) (nat_times n (neg_ℚ k)) x p q
  where
    turned : (x y p q : ℚ) → q ≤ℚ p → q ≡ neg_ℚ y → p ≡ neg_ℚ x → x ≤ℚ y
    turned x y p q h e f = with4 x y p q (λ c. omega (arith, c.le, c.lt, c.same))
