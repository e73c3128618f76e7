-- The values of the gate of the example: open for the last 250 of each 1000, at 100 bits a unit of time.
use Rattle.std.specs.Prelude.{◌≡◌, ◌⊎◌, ℕ, pos, List}
use Rattle.std.proofs.Common.{arith, ap, ◌∙◌, refl, inl, inr}
use Rattle.rational.specs.Rational.{ℚ, int, ◌+ℚ◌, ◌-ℚ◌, ◌*ℚ◌, ◌≤ℚ◌, ◌<ℚ◌, neg_ℚ}
use Rattle.rational.specs.Fractions.{same_parts}
use Rattle.rational.specs.Extended.{◌+ₑ◌}
use Rattle.rational.specs.declared.Extended.TheVariants.{Fin}
use Rattle.rational.proofs.Laws.{mul_comm, le_or_lt}
use Rattle.rational.proofs.Whole.{periods_unique, periods_low, periods_high}
use Rattle.rational.specs.Whole.{periods}
use Rattle.rational.proofs.Linear.{with2, with3, with4}
use Rattle.upp_curve.specs.declared.affine_segment.line.Piece.{Piece}
use Rattle.upp_curve.specs.affine_segment.Reading.{read}
use Rattle.min_plus.specs.Functions.{zero_q}
use Rattle.upp_curve.specs.Curve.{value_at, repeated}
use Rattle.upp_curve.specs.Kinds.{gate, gated}
use Rattle.upp_curve.proofs.GateValues.{gate_pieces, closed_value, open_value}
use Rattle.upp_curve.proofs.Worked.{computing}
use Rattle.run_laws.specs.Cards.{whole}
use Rattle.run_laws.proofs.Small.{lt_t}

abbrev pieces : List Piece
pieces = gate_pieces (whole 100) (whole 1000) (whole 250)

gate_is : gate (whole 100) (whole 1000) (whole 250) ≡ gated (whole 100) (whole 1000) (whole 250)
unfolding computing
gate_is = refl

closed_part : whole 1000 -ℚ whole 250 ≡ whole 750
unfolding computing
closed_part = same_parts _ _ refl refl

offset : neg_ℚ (whole 100 *ℚ (whole 1000 -ℚ whole 250)) ≡ neg_ℚ (whole 75000)
unfolding computing
offset = same_parts _ _ refl refl

in_slot : whole 100 *ℚ whole 250 ≡ whole 25000
unfolding computing
in_slot = same_parts _ _ refl refl

-- after m cycles
record IsAfter (m : ℕ) (t : ℚ) : Type 0 where
  pub low : whole 1000 *ℚ whole m ≤ℚ t
  pub high : t <ℚ whole 1000 *ℚ whole m +ℚ whole 1000

cycle_value : (m : ℕ) (t : ℚ) → IsAfter m t
    → value_at (gated (whole 100) (whole 1000) (whole 250)) t
    ≡ read pieces (t -ℚ int (pos m) *ℚ whole 1000) +ₑ Fin (int (pos m) *ℚ (whole 100 *ℚ whole 250))
unfolding value_at repeated
cycle_value m t h =
    ap (λ n. read pieces (t -ℚ int (pos n) *ℚ whole 1000) +ₑ Fin (int (pos n) *ℚ (whole 100 *ℚ whole 250)))
    (periods_unique zero_q (whole 1000) t m (lt_t 0 1000 refl)
    (first (int (pos m) *ℚ whole 1000) (whole 1000 *ℚ whole m) (mul_comm (int (pos m)) (whole 1000)) h.low)
    (last (int (pos m) *ℚ whole 1000) (whole 1000 *ℚ whole m) (mul_comm (int (pos m)) (whole 1000)) h.high))
  where
    first : (x y : ℚ) → x ≡ y → y ≤ℚ t → zero_q +ℚ x ≤ℚ t
    first x y e h = with3 x y t (λ c. omega (arith, c.le, c.lt, c.same))

    last : (x y : ℚ) → x ≡ y → t <ℚ y +ℚ whole 1000 → t <ℚ zero_q +ℚ x +ℚ whole 1000
    last x y e h = with3 x y t (λ c. omega (arith, c.le, c.lt, c.same))

-- while it is closed: what the cycles before have done
pub while_closed : (m : ℕ) (t : ℚ) → whole 1000 *ℚ whole m ≤ℚ t → t <ℚ whole 1000 *ℚ whole m +ℚ whole 750
    → value_at (gate (whole 100) (whole 1000) (whole 250)) t ≡ Fin (whole 25000 *ℚ whole m)
while_closed m t low high = rw gate_is
    (cycle_value m t record { low = low; high = within (whole 1000 *ℚ whole m) high }
    ∙ ap (λ v. v +ₑ Fin (int (pos m) *ℚ (whole 100 *ℚ whole 250)))
    (closed_value (whole 100) (whole 1000) (whole 250) (t -ℚ int (pos m) *ℚ whole 1000)
    (on (int (pos m) *ℚ whole 1000) (whole 1000 *ℚ whole m) (mul_comm (int (pos m)) (whole 1000)) low)
    (rw closed_part (early (int (pos m) *ℚ whole 1000) (whole 1000 *ℚ whole m) (mul_comm (int (pos m)) (whole 1000)) high)))
    ∙ ap Fin (sums (int (pos m) *ℚ (whole 100 *ℚ whole 250)) (whole 25000 *ℚ whole m)
    (ap (λ z. int (pos m) *ℚ z) in_slot ∙ mul_comm (int (pos m)) (whole 25000))))
  where
    within : (y : ℚ) → t <ℚ y +ℚ whole 750 → t <ℚ y +ℚ whole 1000
    within y h = with2 t y (λ c. omega (arith, c.le, c.lt, c.same))

    on : (x y : ℚ) → x ≡ y → y ≤ℚ t → zero_q ≤ℚ t -ℚ x
    on x y e h = with3 x y t (λ c. omega (arith, c.le, c.lt, c.same))

    early : (x y : ℚ) → x ≡ y → t <ℚ y +ℚ whole 750 → t -ℚ x <ℚ whole 750
    early x y e h = with3 x y t (λ c. omega (arith, c.le, c.lt, c.same))

    sums : (x y : ℚ) → x ≡ y → zero_q +ℚ x ≡ y
    sums x y e = with2 x y (λ c. omega (arith, c.le, c.lt, c.same))

-- while it is open: that, and the rate from when it opened
pub while_open : (m : ℕ) (t : ℚ) → whole 1000 *ℚ whole m +ℚ whole 750 ≤ℚ t → t <ℚ whole 1000 *ℚ whole m +ℚ whole 1000
    → value_at (gate (whole 100) (whole 1000) (whole 250)) t ≡ Fin (whole 100 *ℚ t -ℚ whole 75000 *ℚ whole m -ℚ whole 75000)
while_open m t low high = rw gate_is
    (cycle_value m t record { low = within (whole 1000 *ℚ whole m) low; high = high }
    ∙ ap (λ v. v +ₑ Fin (int (pos m) *ℚ (whole 100 *ℚ whole 250)))
    (open_value (whole 100) (whole 1000) (whole 250) (t -ℚ int (pos m) *ℚ whole 1000)
    (rw closed_part (late (int (pos m) *ℚ whole 1000) (whole 1000 *ℚ whole m) (mul_comm (int (pos m)) (whole 1000)) low)))
    ∙ ap Fin (ap (λ z. z +ℚ whole 100 *ℚ (t -ℚ int (pos m) *ℚ whole 1000) +ℚ int (pos m) *ℚ (whole 100 *ℚ whole 250)) offset
    ∙ sums (whole m) (int (pos m) *ℚ whole 1000) (int (pos m) *ℚ (whole 100 *ℚ whole 250))
    (mul_comm (int (pos m)) (whole 1000)) (ap (λ z. int (pos m) *ℚ z) in_slot ∙ mul_comm (int (pos m)) (whole 25000))))
  where
    within : (y : ℚ) → y +ℚ whole 750 ≤ℚ t → y ≤ℚ t
    within y h = with2 t y (λ c. omega (arith, c.le, c.lt, c.same))

    late : (x y : ℚ) → x ≡ y → y +ℚ whole 750 ≤ℚ t → whole 750 ≤ℚ t -ℚ x
    late x y e h = with3 x y t (λ c. omega (arith, c.le, c.lt, c.same))

    sums : (n x y : ℚ) → x ≡ whole 1000 *ℚ n → y ≡ whole 25000 *ℚ n
        → neg_ℚ (whole 75000) +ℚ whole 100 *ℚ (t -ℚ x) +ℚ y ≡ whole 100 *ℚ t -ℚ whole 75000 *ℚ n -ℚ whole 75000
    sums n x y e f = with4 t n x y (λ c. omega (arith, c.le, c.lt, c.same))

-- ---- at any time
-- how many cycles are over
pub record InCycle (t : ℚ) : Type 0 where
  pub cycles : ℕ
  pub low : whole 1000 *ℚ whole cycles ≤ℚ t
  pub high : t <ℚ whole 1000 *ℚ whole cycles +ℚ whole 1000

-- from some time on
pub record InCycleFrom (from t : ℚ) : Type 0 where
  pub cycles : ℕ
  pub low : from +ℚ whole 1000 *ℚ whole cycles ≤ℚ t
  pub high : t <ℚ from +ℚ whole 1000 *ℚ whole cycles +ℚ whole 1000

pub cycle_from : (from t : ℚ) → from ≤ℚ t → InCycleFrom from t
cycle_from from t on =
    let n = periods from (whole 1000) t in
    let e = mul_comm (int (pos n)) (whole 1000) in
    let l = periods_low from (whole 1000) t (lt_t 0 1000 refl) on in
    let h = periods_high from (whole 1000) t (lt_t 0 1000 refl) in
    record {
      cycles = n;
      low = first (int (pos n) *ℚ whole 1000) (whole 1000 *ℚ whole n) e l;
      high = last (int (pos n) *ℚ whole 1000) (whole 1000 *ℚ whole n) e h;
    }
  where
    first : (x y : ℚ) → x ≡ y → from +ℚ x ≤ℚ t → from +ℚ y ≤ℚ t
    first x y e h = with4 x y t from (λ c. omega (arith, c.le, c.lt, c.same))

    last : (x y : ℚ) → x ≡ y → t <ℚ from +ℚ x +ℚ whole 1000 → t <ℚ from +ℚ y +ℚ whole 1000
    last x y e h = with4 x y t from (λ c. omega (arith, c.le, c.lt, c.same))

pub cycle_at : (t : ℚ) → zero_q ≤ℚ t → InCycle t
cycle_at t on =
    let h = cycle_from zero_q t on in
    let y = whole 1000 *ℚ whole h.cycles in
    record { cycles = h.cycles; low = first y h.low; high = last y h.high }
  where
    first : (y : ℚ) → zero_q +ℚ y ≤ℚ t → y ≤ℚ t
    first y h = with2 y t (λ c. omega (arith, c.le, c.lt, c.same))

    last : (y : ℚ) → t <ℚ zero_q +ℚ y +ℚ whole 1000 → t <ℚ y +ℚ whole 1000
    last y h = with2 y t (λ c. omega (arith, c.le, c.lt, c.same))

-- at each time a number, and no less than a line of a quarter of the rate
pub record IsOverLine (t : ℚ) : Type 0 where
  pub level : ℚ
  pub is : value_at (gate (whole 100) (whole 1000) (whole 250)) t ≡ Fin level
  pub over : whole 25 *ℚ t -ℚ whole 18750 ≤ℚ level

pub over_line : (t : ℚ) → zero_q ≤ℚ t → IsOverLine t
over_line t on =
    let h = cycle_at t on in
    by_part h.cycles h.low h.high (le_or_lt (whole 1000 *ℚ whole h.cycles +ℚ whole 750) t)
  where
    by_part : (m : ℕ) → whole 1000 *ℚ whole m ≤ℚ t → t <ℚ whole 1000 *ℚ whole m +ℚ whole 1000
        → (whole 1000 *ℚ whole m +ℚ whole 750 ≤ℚ t) ⊎ (t <ℚ whole 1000 *ℚ whole m +ℚ whole 750) → IsOverLine t
    by_part m low high (inl h) = record { level = _; is = while_open m t h high; over = while_it_is (whole m) h }
      where
        while_it_is : (n : ℚ) → whole 1000 *ℚ n +ℚ whole 750 ≤ℚ t
            → whole 25 *ℚ t -ℚ whole 18750 ≤ℚ whole 100 *ℚ t -ℚ whole 75000 *ℚ n -ℚ whole 75000
        while_it_is n h = with2 t n (λ c. omega (arith, c.le, c.lt, c.same))
    by_part m low high (inr h) = record { level = _; is = while_closed m t low h; over = closed (whole m) h }
      where
        closed : (n : ℚ) → t <ℚ whole 1000 *ℚ n +ℚ whole 750 → whole 25 *ℚ t -ℚ whole 18750 ≤ℚ whole 25000 *ℚ n
        closed n h = with2 t n (λ c. omega (arith, c.le, c.lt, c.same))
