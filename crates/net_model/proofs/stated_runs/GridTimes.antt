-- Steps of arithmetic on times that have room.
use Rattle.std.specs.Prelude.{ℕ, pos}
use Rattle.std.proofs.Common.{arith}
use Rattle.rational.specs.Rational.{ℚ, int, ◌+ℚ◌, ◌-ℚ◌, ◌*ℚ◌, ◌/ℚ◌, neg_ℚ, ◌≤ℚ◌, ◌<ℚ◌}
use Rattle.rational.specs.Ratio.{IsSmall, SumFits}
use Rattle.rational.specs.Grid.{Within}
use Rattle.rational.proofs.Integers.{nat_nonneg}
use Rattle.rational.proofs.Linear.{with1, with2}
use Rattle.rational.proofs.Laws.{le_trans, mul_le_mul_right, not_zero}
use Rattle.rational.proofs.Grid.{within_nonneg, whole_sub}
use Rattle.rational.proofs.Sizes.{small_on_grid, sum_on_grid, difference_on_grid, quotient_on_grid}
use Rattle.net_model.specs.stated_runs.TimeGrids.{HasRoom, IsTime}

pub within : {D : ℕ} {E t : ℚ} → IsTime D E t → Within E t
within {D} {E} {t} i = within_nonneg E t i.from_zero i.by

room_one : (D : ℕ) (E : ℚ) → HasRoom D E → E *ℚ int (pos D) ≤ℚ int (pos Rattle.rational.proofs.Sizes.largest_part)
room_one D E r =
    let z = r.from_zero in
    le_trans (mul_le_mul_right (int (pos D)) (nat_nonneg D) (let l : E ≤ℚ int (pos 8) *ℚ E = with1 E (λ c. omega (arith, c.le, c.lt, c.same)) in l)) r.room

pub room_two : (D : ℕ) (E : ℚ) → HasRoom D E → (E +ℚ E) *ℚ int (pos D) ≤ℚ int (pos Rattle.rational.proofs.Sizes.largest_part)
room_two D E r =
    let z = r.from_zero in
    le_trans (mul_le_mul_right (int (pos D)) (nat_nonneg D) (let l : E +ℚ E ≤ℚ int (pos 8) *ℚ E = with1 E (λ c. omega (arith, c.le, c.lt, c.same)) in l)) r.room

pub sum_fits : (D : ℕ) (E a b : ℚ) → HasRoom D E → IsTime D E a → IsTime D E b → SumFits a b
sum_fits D E a b r i j = sum_on_grid D E E a b r.some r.small (room_two D E r) i.on_grid j.on_grid (within i) (within j)

pub difference_fits : (D : ℕ) (E a b : ℚ) → HasRoom D E → IsTime D E a → IsTime D E b → SumFits a (neg_ℚ b)
difference_fits D E a b r i j = difference_on_grid D E E a b r.some r.small (room_two D E r) i.on_grid j.on_grid (within i) (within j)

pub quotient_fits : (D : ℕ) (E a b : ℚ) → HasRoom D E → IsTime D E a → IsTime D E b → int (pos 0) <ℚ b → IsSmall (a /ℚ b)
quotient_fits D E a b r i j some =
    quotient_on_grid D E E a b r.some (not_zero b some) (room_one D E r) (room_one D E r) i.on_grid j.on_grid (within i) (within j)

pub time_fits : (D : ℕ) (E t : ℚ) → HasRoom D E → IsTime D E t → IsSmall t
time_fits D E t r i = small_on_grid D E t r.some r.small (room_one D E r) i.on_grid (within i)

-- what is left of a time
pub rest_is_time : (D : ℕ) (E a b : ℚ) → IsTime D E a → IsTime D E b → b ≤ℚ a → IsTime D E (a -ℚ b)
rest_is_time D E a b i j l =
    let u = i.by in
    let z = j.from_zero in
    record {
      on_grid = whole_sub D a b i.on_grid j.on_grid;
      from_zero = with2 a b (λ c. omega (arith, c.le, c.lt, c.same));
      by = Rattle.rational.proofs.Linear.with3 a b E (λ c. omega (arith, c.le, c.lt, c.same));
    }
