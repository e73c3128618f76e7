-- The closure of a falling number of values of a line without an end is that of one with an end far enough.
use Rattle.std.specs.Prelude.{◌≡◌, ℕ, zero, suc, ◌≤◌, pos}
use Rattle.std.proofs.Common.{arith, ap, ◌∙◌, subst, inl, inr}
use Rattle.rational.specs.Rational.{ℚ, ◌+ℚ◌, ◌*ℚ◌, ◌≤ℚ◌, ◌<ℚ◌, int}
use Rattle.rational.specs.Extended.{Ext, ◌≤ₑ◌}
use Rattle.rational.specs.declared.Extended.TheVariants.{Fin, Inf}
use Rattle.rational.proofs.Linear.{with1, with3, with4, with5, with6}
use Rattle.rational.proofs.Laws.{le_lt_trans, lt_irrefl, le_of_lt, le_or_lt, mul_add, mul_one, one_mul, zero_mul, mul_le_mul_right}
use Rattle.rational.proofs.Integers.{nat_le, nat_lt}
use Rattle.rational.proofs.Whole.{one_more_times}
use Rattle.rational.proofs.ExtendedOrder.{le_ext_trans}
use Rattle.upp_curve.specs.declared.affine_segment.line.Line.{Line}
use Rattle.min_plus.specs.Functions.{zero_q}
use Rattle.upp_curve.specs.Curve.{value_at}
use Rattle.subadd_closure.specs.ElementClosures.{Turn, IsSegmentClosure}
use Rattle.subadd_closure.specs.ElementCurves.{falling_closure, stretches}
use Rattle.subadd_closure.proofs.TurnNumbers.{fewer, turn_above, turn_in, least_down}
use Rattle.subadd_closure.proofs.ClosureValues.{left_of, falling_values}
use Rattle.min_plus.specs.closure_laws.Star.{nat_times}

-- past a, the number whose stretch begins last before t
record Last (a t : ℚ) : Type 0 where
  number : ℕ
  above : nat_times (suc number) a <ℚ t
  below : t ≤ℚ nat_times (suc (suc number)) a

last_of : (a t : ℚ) → zero_q <ℚ a → a <ℚ t → Last a t
last_of a t some h =
    let s = left_of a a t some (le_of_lt h) in
    let n = one_more_times s.number a in
    let m = one_more_times (suc s.number) a in
    let L = s.low in
    let H = s.high in
    let B = s.back in
    elim (le_or_lt s.left a) [
      | inl here ↦ at_start s.number s.left L here B
      | inr later ↦ record {
        number = s.number;
        above = past (nat_times s.number a) (nat_times (suc s.number) a) s.left n later B;
        below = upto (nat_times s.number a) (nat_times (suc s.number) a) (nat_times (suc (suc s.number)) a) s.left n m H B;
      }
    ]
  where
    past : (j k s : ℚ) → k ≡ j +ℚ a → a <ℚ s → t ≡ s +ℚ j → k <ℚ t
    past j k s e p b = with5 a t j k s (λ c. omega (arith, c.le, c.lt, c.same))

    upto : (j k m s : ℚ) → k ≡ j +ℚ a → m ≡ k +ℚ a → s <ℚ a +ℚ a → t ≡ s +ℚ j → t ≤ℚ m
    upto j k m s e f p b = with6 a t j k m s (λ c. omega (arith, c.le, c.lt, c.same))

    at_start : (n : ℕ) (s : ℚ) → a ≤ℚ s → s ≤ℚ a → t ≡ s +ℚ nat_times n a → Last a t
    at_start zero s p q b =
        let z = zero_mul a in
        absurd (lt_irrefl t (not_late (nat_times 0 a) s z p q b))
      where
        not_late : (j s : ℚ) → j ≡ zero_q → a ≤ℚ s → s ≤ℚ a → t ≡ s +ℚ j → t <ℚ t
        not_late j s z p q b = with4 a t j s (λ c. omega (arith, c.le, c.lt, c.same))
    at_start (suc n) s p q b =
        let m = one_more_times (suc n) a in
        record {
          number = n;
          above = over (nat_times (suc n) a) s p b;
          below = under (nat_times (suc n) a) (nat_times (suc (suc n)) a) s m q b;
        }
      where
        over : (j s : ℚ) → a ≤ℚ s → t ≡ s +ℚ j → j <ℚ t
        over j s p b = with4 a t j s (λ c. omega (arith, c.le, c.lt, c.same))

        under : (j k s : ℚ) → k ≡ j +ℚ a → s ≤ℚ a → t ≡ s +ℚ j → t ≤ℚ k
        under j k s e q b = with5 a t j k s (λ c. omega (arith, c.le, c.lt, c.same))

-- an end that every stretch from the first on reaches the next with
abbrev pub far : ℚ → ℚ
far a = a +ℚ a +ℚ int (pos 1)

pub far_joined : (a : ℚ) → zero_q ≤ℚ a → (i : ℕ) → 1 ≤ i → nat_times (suc i) a <ℚ nat_times i (far a)
far_joined a low zero h = absurd (omega arith)
far_joined a low (suc i) h =
    let I = int (pos (suc i)) in
    let e : I *ℚ far a ≡ I *ℚ (a +ℚ a) +ℚ I = mul_add I (a +ℚ a) (int (pos 1)) ∙ ap (λ z. I *ℚ (a +ℚ a) +ℚ z) (mul_one I) in
    let f : I *ℚ (a +ℚ a) ≡ I *ℚ a +ℚ I *ℚ a = mul_add I a a in
    let n = one_more_times (suc i) a in
    let some : zero_q <ℚ I = nat_lt 0 (suc i) (omega arith) in
    let one : a ≤ℚ I *ℚ a = subst (λ z. z ≤ℚ I *ℚ a) (one_mul a) (mul_le_mul_right a low (nat_le 1 (suc i) (omega arith))) in
    reached a (I *ℚ a) I (I *ℚ (a +ℚ a)) (I *ℚ far a) (nat_times (suc (suc i)) a) e f n some one
  where
    reached : (a x i y z n : ℚ) → z ≡ y +ℚ i → y ≡ x +ℚ x → n ≡ x +ℚ a → zero_q <ℚ i → a ≤ℚ x → n <ℚ z
    reached a x i y z n e f g p q = with6 a x i y z n (λ c. omega (arith, c.le, c.lt, c.same))

-- the turns of the one are turns of the other, and the last of them has an end
pub to_endless : (a : ℚ) (l : Line) (t : ℚ) (v : Ext) → zero_q <ℚ a → l.icept ≤ℚ zero_q → IsSegmentClosure a (Fin (far a)) l t v
    → IsSegmentClosure a Inf l t v
to_endless a l t v some down h = record {
  below = λ u. under u;
  near = λ y k. let (u, g) = h.near y k in
      let w : Turn a Inf t = record { less_one = u.less_one; share = u.share; is = u.is; above = u.above; below = tt } in
      (w, g);
}
  where
    raised : (x y z : ℚ) → x ≤ℚ y → x +ℚ z ≤ℚ y +ℚ z
    raised x y z h = with3 x y z (λ c. omega (arith, c.le, c.lt, c.same))

    under : (u : Turn a Inf t) → v ≤ₑ Fin (nat_times (suc u.less_one) l.icept +ℚ l.slope *ℚ t)
    under u =
        let low = le_of_lt some in
        let first : a <ℚ t = le_lt_trans (subst (λ z. z ≤ℚ nat_times (suc u.less_one) a) (one_mul a)
        (mul_le_mul_right a low (nat_le 1 (suc u.less_one) (omega arith)))) (turn_above a Inf t u) in
        let r = last_of a t some first in
        let w = turn_in a (Fin (far a)) t r.number r.above (le_lt_trans r.below (far_joined a low (suc r.number) (omega arith))) in
        let few = fewer a Inf t (suc (suc r.number)) low r.below u in
        let x = least_down l.icept (suc r.number) (suc u.less_one) down (omega arith) in
        le_ext_trans v (Fin (nat_times (suc r.number) l.icept +ℚ l.slope *ℚ t)) (Fin (nat_times (suc u.less_one) l.icept +ℚ l.slope *ℚ t))
        (h.below w) (raised (nat_times (suc r.number) l.icept) (nat_times (suc u.less_one) l.icept) (l.slope *ℚ t) x)

pub far_later : (a : ℚ) → zero_q <ℚ a → a <ℚ far a
far_later a some = with1 a (λ c. omega (arith, c.le, c.lt, c.same))

pub endless_falling : (a b : ℚ) (l : Line) → zero_q <ℚ a → l.icept ≤ℚ zero_q → (t : ℚ) → zero_q ≤ℚ t
    → IsSegmentClosure a Inf l t (value_at (falling_closure a b l 0) t)
unfolding stretches
endless_falling a b l some down t h =
    to_endless a l t (value_at (falling_closure a b l 0) t) some down
    (falling_values a (far a) l 0 (le_of_lt some) further (λ i p q. absurd (omega arith)) (λ i p. far_joined a (le_of_lt some) i p) some down t h)
  where
    further : a <ℚ far a
    further = with1 a (λ c. omega (arith, c.le, c.lt, c.same))
