-- The curve of a gate never falls and rises no faster than its rate.
use Rattle.std.proofs.Common.{◌≡◌, ℕ, suc, pos, ◌≤◌, subst, ◌∙◌, arith, inl, inr, ap}
use Rattle.std.proofs.lemmas.Bool.{cases_lt}
use Rattle.rational.specs.Rational.{ℚ, int, ◌+ℚ◌, ◌-ℚ◌, ◌*ℚ◌, ◌/ℚ◌, ◌≤ℚ◌, ◌<ℚ◌}
use Rattle.rational.specs.MinMax.{max_q}
use Rattle.rational.specs.Whole.{whole_part}
use Rattle.rational.specs.declared.Extended.TheVariants.{Fin}
use Rattle.rational.proofs.Laws.{le_refl, le_trans, le_of_lt, le_lt_trans, mul_le_mul, mul_le_mul_right, mul_sub, mul_add, mul_zero, zero_mul, not_zero}
use Rattle.rational.proofs.Integers.{nat_le, nat_lt_out}
use Rattle.rational.proofs.MinMax.{max_q_ge_left, max_q_ge_right, max_q_le, max_q_is_left}
use Rattle.rational.proofs.Quotients.{div_mono, div_le, div_nonneg, zero_div}
use Rattle.rational.proofs.Whole.{whole_le, whole_gt, whole_small}
use Rattle.rational.proofs.Linear.{with2, with3, with5, with6, with8}
use Rattle.min_plus.specs.Functions.{zero_q}
use Rattle.upp_curve.specs.Curve.{value_at}
use Rattle.upp_curve.specs.Kinds.{gate}
use Rattle.min_plus.specs.WholeUp.{whole_up}
use Rattle.upp_limits.proofs.Rounding.{whole_up_least, whole_up_most}
use Rattle.upp_curve.proofs.StairValues.{ratio_low}
use Rattle.upp_curve.proofs.GateValues.{gate_is}
use Rattle.net_model.proofs.Paces.{HasPace}

-- the cycles that are over at t, and those that have begun before it
record Counted (c t : ℚ) (over begun : ℕ) : Type 0 where
  pub low : int (pos over) *ℚ c ≤ℚ t
  pub high : t ≤ℚ int (pos begun) *ℚ c
  pub tight : begun ≤ suc over

counted : (c t : ℚ) → zero_q <ℚ c → zero_q ≤ℚ t → Counted c t (whole_part (t /ℚ c)) (whole_up (t /ℚ c))
counted c t some late = record {
  low = ratio_low c t some late;
  high = (div_le t c (int (pos (whole_up (t /ℚ c)))) some).0 (whole_up_least (t /ℚ c));
  tight = whole_up_most (t /ℚ c) (suc (whole_part (t /ℚ c))) (le_of_lt (whole_gt (t /ℚ c)));
}

pub over_grows : (c a b : ℚ) → zero_q <ℚ c → zero_q ≤ℚ a → a ≤ℚ b → whole_part (a /ℚ c) ≤ whole_part (b /ℚ c)
over_grows c a b some late h =
    let less = le_lt_trans (le_trans (whole_le (a /ℚ c) (div_nonneg a c some late)) (div_mono a b c some h)) (whole_gt (b /ℚ c)) in
    let n = nat_lt_out (whole_part (a /ℚ c)) (suc (whole_part (b /ℚ c))) less in
    omega (arith, n)

begun_grows : (c a b : ℚ) → zero_q <ℚ c → a ≤ℚ b → whole_up (a /ℚ c) ≤ whole_up (b /ℚ c)
begun_grows c a b some h = whole_up_most (a /ℚ c) (whole_up (b /ℚ c)) (le_trans (div_mono a b c some h) (whole_up_least (b /ℚ c)))

-- so many times u
times_grow : (m n : ℕ) (u : ℚ) → zero_q ≤ℚ u → m ≤ n → int (pos m) *ℚ u ≤ℚ int (pos n) *ℚ u
times_grow m n u h k = mul_le_mul_right u h (nat_le m n k)

-- how long the gate has been open: for a slot in each cycle that is over, and since the last one opened
open_for : ℚ → ℚ → ℕ → ℕ → ℚ → ℚ
open_for c s over begun t = max_q (int (pos over) *ℚ s) (t -ℚ int (pos begun) *ℚ (c -ℚ s))

grows : (c s a b : ℚ) (na ma nb mb : ℕ) → zero_q ≤ℚ s → zero_q ≤ℚ c -ℚ s → a ≤ℚ b → Counted c a na ma → Counted c b nb mb → na ≤ nb → ma ≤ mb
    → open_for c s na ma a ≤ℚ open_for c s nb mb b
unfolding open_for
grows c s a b na ma nb mb slot closed before A B over begun =
    let G = max_q (int (pos nb) *ℚ s) (b -ℚ int (pos mb) *ℚ (c -ℚ s)) in
    let left = max_q_ge_left (int (pos nb) *ℚ s) (b -ℚ int (pos mb) *ℚ (c -ℚ s)) in
    let right = max_q_ge_right (int (pos nb) *ℚ s) (b -ℚ int (pos mb) *ℚ (c -ℚ s)) in
    max_q_le (int (pos na) *ℚ s) (a -ℚ int (pos ma) *ℚ (c -ℚ s)) G
    (le_trans (times_grow na nb s slot over) left)
    (elim (cases_lt ma mb) [
      | inl l ↦
          let high = A.high in
          let split = mul_sub (int (pos ma)) c s in
          let later = times_grow ma nb s slot (omega (arith, l, B.tight)) in
          with6 a (int (pos ma) *ℚ c) (int (pos ma) *ℚ s) (int (pos ma) *ℚ (c -ℚ s)) (int (pos nb) *ℚ s) G (λ o. omega (arith, o.le, o.lt, o.same))
      | inr l ↦
          let same = times_grow mb ma (c -ℚ s) closed l in
          with5 a b (int (pos ma) *ℚ (c -ℚ s)) (int (pos mb) *ℚ (c -ℚ s)) G (λ o. omega (arith, o.le, o.lt, o.same))
    ])

bounded : (c s a b : ℚ) (na ma nb mb : ℕ) → zero_q ≤ℚ s → zero_q ≤ℚ c -ℚ s → a ≤ℚ b → Counted c a na ma → Counted c b nb mb → na ≤ nb → ma ≤ mb
    → open_for c s nb mb b ≤ℚ open_for c s na ma a +ℚ (b -ℚ a)
unfolding open_for
bounded c s a b na ma nb mb slot closed before A B over begun =
    let G = max_q (int (pos na) *ℚ s) (a -ℚ int (pos ma) *ℚ (c -ℚ s)) in
    let left = max_q_ge_left (int (pos na) *ℚ s) (a -ℚ int (pos ma) *ℚ (c -ℚ s)) in
    let right = max_q_ge_right (int (pos na) *ℚ s) (a -ℚ int (pos ma) *ℚ (c -ℚ s)) in
    max_q_le (int (pos nb) *ℚ s) (b -ℚ int (pos mb) *ℚ (c -ℚ s)) (G +ℚ (b -ℚ a))
    (elim (cases_lt na nb) [
      | inl l ↦
          let low = B.low in
          let split = mul_sub (int (pos nb)) c s in
          let later = times_grow ma nb (c -ℚ s) closed (omega (arith, l, A.tight)) in
          with8 a b (int (pos nb) *ℚ c) (int (pos nb) *ℚ s) (int (pos nb) *ℚ (c -ℚ s)) (int (pos ma) *ℚ (c -ℚ s)) G G (λ o. omega (arith, o.le, o.lt, o.same))
      | inr l ↦
          let same = times_grow nb na s slot l in
          with5 a b (int (pos na) *ℚ s) (int (pos nb) *ℚ s) G (λ o. omega (arith, o.le, o.lt, o.same))
    ])
    (let later = times_grow ma mb (c -ℚ s) closed begun in
    with5 a b (int (pos ma) *ℚ (c -ℚ s)) (int (pos mb) *ℚ (c -ℚ s)) G (λ o. omega (arith, o.le, o.lt, o.same)))

pub gate_pace : (R c s : ℚ) → zero_q ≤ℚ R → zero_q <ℚ s → s ≤ℚ c → HasPace (value_at (gate R c s)) R
unfolding open_for
gate_pace R c s rate slot fits = record {
  nonneg = rate;
  value = λ t. R *ℚ open_for c s (whole_part (t /ℚ c)) (whole_up (t /ℚ c)) t;
  is = λ t late. gate_is R c s t rate slot fits late;
  rises = λ a b early before. mul_le_mul R rate (opens a b early before);
  bounded = λ a b early before.
      let G = open_for c s (whole_part (a /ℚ c)) (whole_up (a /ℚ c)) a in
      let P : ℚ → Type 0 = λ x. R *ℚ open_for c s (whole_part (b /ℚ c)) (whole_up (b /ℚ c)) b ≤ℚ x in
      subst P (mul_add R G (b -ℚ a)) (mul_le_mul R rate (lasts a b early before));
}
  where
    some : zero_q <ℚ c
    some = with3 s c zero_q (λ o. omega (arith, o.le, o.lt, o.same))

    closed : zero_q ≤ℚ c -ℚ s
    closed = with3 s c zero_q (λ o. omega (arith, o.le, o.lt, o.same))

    opens : (a b : ℚ) → zero_q ≤ℚ a → a ≤ℚ b → open_for c s (whole_part (a /ℚ c)) (whole_up (a /ℚ c)) a ≤ℚ open_for c s (whole_part (b /ℚ c)) (whole_up (b /ℚ c)) b
    opens a b early before =
        let late : zero_q ≤ℚ b = with3 a b zero_q (λ o. omega (arith, o.le, o.lt, o.same)) in
        grows c s a b (whole_part (a /ℚ c)) (whole_up (a /ℚ c)) (whole_part (b /ℚ c)) (whole_up (b /ℚ c)) (le_of_lt slot) closed before
        (counted c a some early) (counted c b some late) (over_grows c a b some early before) (begun_grows c a b some before)

    lasts : (a b : ℚ) → zero_q ≤ℚ a → a ≤ℚ b
        → open_for c s (whole_part (b /ℚ c)) (whole_up (b /ℚ c)) b ≤ℚ open_for c s (whole_part (a /ℚ c)) (whole_up (a /ℚ c)) a +ℚ (b -ℚ a)
    lasts a b early before =
        let late : zero_q ≤ℚ b = with3 a b zero_q (λ o. omega (arith, o.le, o.lt, o.same)) in
        bounded c s a b (whole_part (a /ℚ c)) (whole_up (a /ℚ c)) (whole_part (b /ℚ c)) (whole_up (b /ℚ c)) (le_of_lt slot) closed before
        (counted c a some early) (counted c b some late) (over_grows c a b some early before) (begun_grows c a b some before)

-- nothing at 0
open_at_zero : (c s : ℚ) → zero_q <ℚ c → open_for c s (whole_part (zero_q /ℚ c)) (whole_up (zero_q /ℚ c)) zero_q ≡ zero_q
unfolding open_for
open_at_zero c s some = ap (λ n. open_for c s n (whole_up (zero_q /ℚ c)) zero_q) over ∙ ap (λ n. open_for c s 0 n zero_q) begun ∙ nothing
  where
    none : zero_q /ℚ c ≡ zero_q
    none = zero_div c (not_zero c some)

    over : whole_part (zero_q /ℚ c) ≡ 0
    over = whole_small (zero_q /ℚ c) (let e = none in with2 (zero_q /ℚ c) zero_q (λ o. omega (arith, o.le, o.lt, o.same)))

    begun : whole_up (zero_q /ℚ c) ≡ 0
    begun = let h = whole_up_most (zero_q /ℚ c) 0 (let e = none in with2 (zero_q /ℚ c) zero_q (λ o. omega (arith, o.le, o.lt, o.same))) in omega (arith, h)

    nothing : max_q (int (pos 0) *ℚ s) (zero_q -ℚ int (pos 0) *ℚ (c -ℚ s)) ≡ zero_q
    nothing =
        let first = zero_mul s in
        let second = zero_mul (c -ℚ s) in
        let later : zero_q -ℚ int (pos 0) *ℚ (c -ℚ s) ≤ℚ int (pos 0) *ℚ s =
        with3 (int (pos 0) *ℚ s) (int (pos 0) *ℚ (c -ℚ s)) zero_q (λ o. omega (arith, o.le, o.lt, o.same)) in
        max_q_is_left (int (pos 0) *ℚ s) (zero_q -ℚ int (pos 0) *ℚ (c -ℚ s)) later ∙ first

pub gate_at_zero : (R c s : ℚ) → zero_q ≤ℚ R → zero_q <ℚ s → s ≤ℚ c → value_at (gate R c s) zero_q ≡ Fin zero_q
unfolding open_for
gate_at_zero R c s rate slot fits =
    let some : zero_q <ℚ c = with3 s c zero_q (λ o. omega (arith, o.le, o.lt, o.same)) in
    gate_is R c s zero_q rate slot fits (le_refl zero_q) ∙ ap (λ x. Fin (R *ℚ x)) (open_at_zero c s some) ∙ ap Fin (mul_zero R)
