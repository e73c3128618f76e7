-- How many stretches end before the next begins.
use Rattle.std.specs.Prelude.{◌≡◌, ℕ, suc, pos}
use Rattle.std.proofs.Common.{arith, sym, subst}
use Rattle.rational.specs.Rational.{ℚ, ◌+ℚ◌, ◌-ℚ◌, ◌*ℚ◌, ◌/ℚ◌, ◌≤ℚ◌, ◌<ℚ◌, int}
use Rattle.rational.specs.Whole.{whole_part}
use Rattle.rational.specs.declared.Extended.TheVariants.{Fin, Inf}
use Rattle.rational.proofs.Linear.{with2, with3, with5}
use Rattle.rational.proofs.Laws.{le_trans, lt_le_trans, le_of_lt, mul_le_mul_right, mul_lt_mul_right, mul_add, zero_mul, div_mul, not_zero, le_of_mul}
use Rattle.rational.proofs.Integers.{nat_le}
use Rattle.rational.proofs.Whole.{one_more_times, whole_le, whole_gt}
use Rattle.min_plus.specs.Functions.{zero_q}
use Rattle.subadd_closure.specs.ElementCurves.{IsStretch}
use Rattle.subadd_closure.specs.MeetLaws.{StretchesMeet}
use Rattle.min_plus.specs.closure_laws.Star.{nat_times}

-- n b is n a and n lengths
length_times : (a b : ℚ) (n : ℕ) → (nat_times n b ≤ℚ nat_times n a +ℚ nat_times n (b -ℚ a)) × (nat_times n a +ℚ nat_times n (b -ℚ a) ≤ℚ nat_times n b)
length_times a b n =
    let back : a +ℚ (b -ℚ a) ≡ b = with2 a b (λ c. omega (arith, c.le, c.lt, c.same)) in
    let e = mul_add (int (pos n)) a (b -ℚ a) in
    both (nat_times n b) (nat_times n a) (nat_times n (b -ℚ a)) (subst (λ z. nat_times n z ≡ nat_times n a +ℚ nat_times n (b -ℚ a)) back e)
  where
    both : (x y z : ℚ) → x ≡ y +ℚ z → (x ≤ℚ y +ℚ z) × (y +ℚ z ≤ℚ x)
    both x y z e = with3 x y z (λ c. omega (arith, c.le, c.lt, c.same))

ended : (a b : ℚ) → zero_q ≤ℚ a → a <ℚ b → IsStretch a (Fin b) (whole_part (a /ℚ (b -ℚ a)))
ended a b low proper =
    let d = b -ℚ a in
    let some : zero_q <ℚ d = with2 a b (λ c. omega (arith, c.le, c.lt, c.same)) in
    let back = div_mul a d (not_zero d some) in
    let q = a /ℚ d in
    let nonneg : zero_q ≤ℚ q = le_of_mul d zero_q q some (subst (λ z. zero_q *ℚ d ≤ℚ z) (sym back) (subst (λ z. z ≤ℚ a) (sym (zero_mul d)) low)) in
    record {
      nonneg = low;
      proper = proper;
      meet = record {
        apart = λ i p h.
            let l : int (pos i) ≤ℚ q = le_trans (nat_le i (whole_part q) (omega arith)) (whole_le q nonneg) in
            let m : nat_times i d ≤ℚ a = subst (λ z. nat_times i d ≤ℚ z) back (mul_le_mul_right d (le_of_lt some) l) in
            let n = one_more_times i a in
            let e = length_times a b i in
            ends (nat_times i b) (nat_times i a) (nat_times i d) (nat_times (suc i) a) e.0 m n;
        joined = λ i h.
            let l : q <ℚ int (pos i) = lt_le_trans (whole_gt q) (nat_le (suc (whole_part q)) i h) in
            let m : a <ℚ nat_times i d = subst (λ z. z <ℚ nat_times i d) back (mul_lt_mul_right d some l) in
            let n = one_more_times i a in
            let e = length_times a b i in
            goes_on (nat_times i b) (nat_times i a) (nat_times i d) (nat_times (suc i) a) e.1 m n;
      };
    }
  where
    ends : (x y z k : ℚ) → x ≤ℚ y +ℚ z → z ≤ℚ a → k ≡ y +ℚ a → x ≤ℚ k
    ends x y z k p h e = with5 x y z k a (λ c. omega (arith, c.le, c.lt, c.same))

    goes_on : (x y z k : ℚ) → y +ℚ z ≤ℚ x → a <ℚ z → k ≡ y +ℚ a → k <ℚ x
    goes_on x y z k p h e = with5 x y z k a (λ c. omega (arith, c.le, c.lt, c.same))

endless : (a : ℚ) → zero_q ≤ℚ a → IsStretch a Inf 0
endless a low = record {
  nonneg = low;
  proper = tt;
  meet = record { apart = λ i p h. absurd (omega arith); joined = λ i h. tt };
}

pub stretches_meet : StretchesMeet
stretches_meet = record { ended = ended; endless = endless }
