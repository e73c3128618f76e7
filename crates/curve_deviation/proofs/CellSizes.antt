-- The steps to the lag of a cell fit.
use Rattle.std.specs.Prelude.{◌≡◌, ◌*◌, pos, Some, ◌↔◌, IsTrue}
use native.Mathlib.Nat.{dvd-mul_left}
use Rattle.std.proofs.Common.{arith, sym, ap, ap₂, ◌∙◌, subst, false}
use Rattle.rational.specs.Rational.{ℚ, ◌-ℚ◌, ◌*ℚ◌, ◌/ℚ◌, ◌≤ℚ◌, ◌<ℚ◌, int, neg_ℚ}
use Rattle.rational.specs.Ratio.{IsSmall, SumFits}
use Rattle.rational.specs.Grid.{Within}
use Rattle.rational.proofs.Sizes.{largest_part, quotient_on_grid}
use Rattle.rational.proofs.Grid.{whole_weaken}
use Rattle.rational.proofs.Integers.{nat_le, nat_nonneg, int_mul}
use Rattle.rational.proofs.Linear.{with2}
use Rattle.rational.proofs.Laws.{div_mul, not_zero}
use Rattle.upp_curve.specs.declared.affine_segment.line.Line.{Line}
use Rattle.upp_curve.specs.affine_segment.Values.{line_at}
use Rattle.upp_curve.specs.affine_segment.Fits.{LineFits}
use Rattle.upp_limits.specs.Limits.{Sizes}
use Rattle.upp_limits.specs.Sized.{grid_of, times_largest, IsSlope}
use Rattle.upp_normal.specs.Operand.{AreLimited, OperandLine}
use Rattle.upp_normal.proofs.AnswerRoom.{operand_line_fits, operand_line_value, values_fit, value_difference_stands, tight}
use Rattle.upp_limits.proofs.NarrowSizes.{grid_pos}
use Rattle.upp_normal.proofs.StretchSizes.{times_fit}
use Rattle.curve_deviation.specs.Cells.{IsTimeTo}
use Rattle.upp_normal.specs.Ahead.{IsGridValue}
use Rattle.rational.proofs.Compared.{least_by_test}

-- ---- values and their differences
pub value_fits : (z : Sizes) (last t : ℚ) (l : Line) → AreLimited z last → OperandLine z l → IsTimeTo z last t → LineFits t l
value_fits z last t l A L T = operand_line_fits z last t (Some l) A L T.whole T.nonneg T.high

value_of : (z : Sizes) (last t : ℚ) (l : Line) → AreLimited z last → OperandLine z l → IsTimeTo z last t → IsGridValue z (line_at l t)
value_of z last t l A L T = operand_line_value z last t (Some l) A L T.whole T.nonneg T.high

pub gap_fits : (z : Sizes) (last t : ℚ) (k l : Line) → AreLimited z last → OperandLine z k → OperandLine z l → IsTimeTo z last t → SumFits (line_at k t) (neg_ℚ (line_at l t))
gap_fits z last t k l A K L T = (values_fit z last (line_at k t) (line_at l t) A (value_of z last t k A K T) (value_of z last t l A L T)).1

pub times_differ : (z : Sizes) (last t u : ℚ) → AreLimited z last → IsTimeTo z last t → IsTimeTo z last u → SumFits t (neg_ℚ u)
times_differ z last t u A T U = (times_fit z last t u A T.whole U.whole T.nonneg T.high U.nonneg U.high).1

-- ---- a difference of values, divided by a slope
steep_within : (z : Sizes) (s : ℚ) → IsSlope z s → Within (int (pos z.steepness)) s
steep_within z s h =
    let S = int (pos z.steepness) in
    let some : int (pos 0) ≤ℚ S = nat_nonneg z.steepness in
    let low = h.within.low in
    let high = h.within.high in
    record { low = with2 S s (λ c. omega (arith, c.le, c.lt, c.same)); high = with2 S s (λ c. omega (arith, c.le, c.lt, c.same)) }

pub quotient_fits : (z : Sizes) (last t s : ℚ) (k l : Line) → AreLimited z last → OperandLine z k → OperandLine z l → IsTimeTo z last t → IsSlope z s → int (pos 0) <ℚ s → IsSmall ((line_at k t -ℚ line_at l t) /ℚ s)
quotient_fits z last t s k l A K L T S some =
    let d = grid_of z in
    let V = value_difference_stands z (line_at k t) (line_at l t) (value_of z last t k A K T) (value_of z last t l A L T) in
    let sums = (tight z last A).sums in
    let steep = (tight z last A).steep in
    let wide : times_largest 6 z *ℚ int (pos d) ≤ℚ int (pos largest_part) =
    subst (λ y. y ≤ℚ int (pos largest_part)) (sym (ap (λ y. y *ℚ int (pos d)) (int_mul (pos 6) (pos z.largest)) ∙ int_mul (pos (6 * z.largest)) (pos d))) (nat_le (6 * z.largest * d) largest_part (omega (arith, sums))) in
    let narrow : int (pos z.steepness) *ℚ int (pos d) ≤ℚ int (pos largest_part) =
    subst (λ y. y ≤ℚ int (pos largest_part)) (sym (int_mul (pos z.steepness) (pos d))) (nat_le (z.steepness * d) largest_part (omega (arith, steep))) in
    quotient_on_grid d (times_largest 6 z) (int (pos z.steepness)) (line_at k t -ℚ line_at l t) s (grid_pos z last A.sizes) (not_zero s some) wide narrow V.whole
    (whole_weaken z.ds d s (dvd-mul_left z.ds (z.dv * z.dt)) S.whole) V.within (steep_within z s S)

-- ---- as they are reckoned
pub gap_as : (z : Sizes) (last t : ℚ) (k l : Line) (v w : ℚ) → AreLimited z last → OperandLine z k → OperandLine z l → IsTimeTo z last t → v ≡ line_at k t → w ≡ line_at l t → SumFits v (neg_ℚ w)
gap_as z last t k l v w A K L T e f = subst (λ x. SumFits x (neg_ℚ w)) (sym e) (subst (λ y. SumFits (line_at k t) (neg_ℚ y)) (sym f) (gap_fits z last t k l A K L T))

pub gap_is : (k l : Line) (t v w g : ℚ) → v ≡ line_at k t → w ≡ line_at l t → g ≡ v -ℚ w → g ≡ line_at k t -ℚ line_at l t
gap_is k l t v w g e f h = h ∙ ap₂ (λ (x y : ℚ). x -ℚ y) e f

pub quotient_as : (z : Sizes) (last t s g : ℚ) (k l : Line) → AreLimited z last → OperandLine z k → OperandLine z l → IsTimeTo z last t → IsSlope z s → int (pos 0) <ℚ s → g ≡ line_at k t -ℚ line_at l t → IsSmall (g /ℚ s)
quotient_as z last t s g k l A K L T S some e = subst (λ x. IsSmall (x /ℚ s)) (sym e) (quotient_fits z last t s k l A K L T S some)

pub quotient_is : (s g q : ℚ) → int (pos 0) <ℚ s → q ≡ g /ℚ s → q *ℚ s ≡ g
quotient_is s g q some e = ap (λ x. x *ℚ s) e ∙ div_mul g s (not_zero s some)

-- ---- tests of values as they are reckoned
pub less_as : (a b x y : ℚ) → a ≡ x → b ≡ y → a <ℚ b → x <ℚ y
less_as a b x y e f h = subst (λ v. v <ℚ y) e (subst (λ v. a <ℚ v) f h)

pub not_less_as : (a b x y : ℚ) → a ≡ x → b ≡ y → (IsTrue false ↔ (a <ℚ b)) → y ≤ℚ x
not_less_as a b x y e f h = subst (λ v. v ≤ℚ x) f (subst (λ v. b ≤ℚ v) e (least_by_test a b h))
