-- A product of two short whole numbers fits, and so does one that is added to a third.
use Rattle.std.specs.Prelude.{ℕ, ◌*◌, ◌+◌, ◌≤◌, ◌^◌, pos}
use Rattle.std.proofs.Common.{arith, sym, ◌∙◌, subst}
use Rattle.rational.specs.Rational.{ℚ, ◌+ℚ◌, ◌*ℚ◌, ◌≤ℚ◌, int}
use Rattle.rational.specs.Fractions.{frac_self}
use Rattle.rational.specs.Grid.{Whole, Within}
use Rattle.rational.specs.Ratio.{IsSmall, SumFits}
use Rattle.rational.proofs.Laws.{mul_one}
use Rattle.rational.proofs.Integers.{int_add, int_mul, nat_le}
use Rattle.rational.proofs.Grid.{whole_den, whole_mul, within_mul}
use Rattle.rational.proofs.Sizes.{largest_part, product_on_grid, sum_on_grid}
use Rattle.upp_limits.proofs.CommonDen.{within_parts}
use Rattle.curve_call.specs.Short.{IsShort}

abbrev short : ℕ
short = 2 ^ 62

on_whole : (x : ℚ) → IsShort x → Whole 1 x
on_whole x h = subst (λ d. Whole d x) h.whole (whole_den x)

within_short : (x : ℚ) → IsShort x → Within (int (pos short)) x
within_short x h =
    let one = h.whole in
    let size = h.size in
    subst (Within (int (pos short))) (sym (frac_self x)) (within_parts short x.num x.pre (omega (arith, one, size)))

-- numbers of one grid
fits_product : (m n : ℕ) → m * n ≤ largest_part → (int (pos m) *ℚ int (pos n)) *ℚ int (pos 1) ≤ℚ int (pos largest_part)
fits_product m n h = subst (λ z. z ≤ℚ int (pos largest_part)) (sym (mul_one (int (pos m) *ℚ int (pos n)) ∙ int_mul (pos m) (pos n))) (nat_le (m * n) largest_part h)

fits_sum : (m n : ℕ) → m + n ≤ largest_part → (int (pos m) +ℚ int (pos n)) *ℚ int (pos 1) ≤ℚ int (pos largest_part)
fits_sum m n h = subst (λ z. z ≤ℚ int (pos largest_part)) (sym (mul_one (int (pos m) +ℚ int (pos n)) ∙ int_add (pos m) (pos n))) (nat_le (m + n) largest_part h)

pub product_fits : (x y : ℚ) → IsShort x → IsShort y → IsSmall (x *ℚ y)
product_fits x y h k =
    product_on_grid 1 1 (int (pos short)) (int (pos short)) x y (omega arith) (omega arith) (omega arith) (fits_product short short (omega arith)) (on_whole x h) (on_whole y k) (within_short x h)
    (within_short y k)

within_product : (x y : ℚ) → IsShort x → IsShort y → Within (int (pos (short * short))) (x *ℚ y)
within_product x y h k = subst (λ z. Within z (x *ℚ y)) (int_mul (pos short) (pos short)) (within_mul (int (pos short)) (int (pos short)) x y (within_short x h) (within_short y k))

pub sum_fits : (k x y : ℚ) → IsShort k → IsShort x → IsShort y → SumFits k (x *ℚ y)
sum_fits k x y g h i =
    sum_on_grid 1 (int (pos short)) (int (pos (short * short))) k (x *ℚ y) (omega arith) (omega arith) (fits_sum short (short * short) (omega arith)) (on_whole k g)
    (whole_mul 1 1 x y (on_whole x h) (on_whole y i)) (within_short k g) (within_product x y h i)
