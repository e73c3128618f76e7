-- The ceiling: that it is the least whole number that is at least the rational, what follows, and how it stands to
-- the floor.
use Rattle.std.specs.Prelude.{◌≡◌, ℕ, suc, ℤ, pos, ◌+ℤ◌, neg_ℤ, ◌≤ℤ◌, ◌<ℤ◌}
use Rattle.std.proofs.Common.{◌∙◌, sym, ap, arith, subst}
use Rattle.std.proofs.lemmas.Int.{ints}
use Rattle.std.specs.Int.{int_div_euclid}
use Rattle.rational.specs.Rational.{ℚ, frac, neg_ℚ, ◌+ℚ◌, ◌≤ℚ◌, ◌<ℚ◌, int}
use Rattle.rational.specs.Floor.{floor, ceil}
use Rattle.rational.proofs.Over.{neg_over}
use Rattle.rational.proofs.Integers.{int_add, int_neg}
use Rattle.rational.proofs.Floor.{floor_le, floor_gt, floor_most, floor_below, floor_unique, floor_frac}
use Rattle.rational.proofs.Linear.{with2, with3}

-- the ceiling is minus the floor of the negation
negated : (x : ℚ) → int (ceil x) ≡ neg_ℚ (int (floor (neg_ℚ x)))
unfolding ceil
negated x = sym (int_neg (floor (neg_ℚ x)))

pub ceil_ge : (x : ℚ) → x ≤ℚ int (ceil x)
ceil_ge x =
    let e = negated x in
    let l = floor_le (neg_ℚ x) in
    with3 x (int (ceil x)) (int (floor (neg_ℚ x))) (λ c. omega (arith, c.le, c.lt, c.same))

pub ceil_lt : (x : ℚ) → int (ceil x) <ℚ x +ℚ int (pos 1)
ceil_lt x =
    let e = negated x in
    let s = int_add (floor (neg_ℚ x)) (pos 1) in
    let l = subst (λ v. neg_ℚ x <ℚ v) (sym s) (floor_gt (neg_ℚ x)) in
    with3 x (int (ceil x)) (int (floor (neg_ℚ x))) (λ c. omega (arith, c.le, c.lt, c.same))

-- a whole number that is at least x is at least its ceiling
pub ceil_least : (z : ℤ) (x : ℚ) → x ≤ℚ int z → ceil x ≤ℤ z
unfolding ceil
ceil_least z x h =
    let l : int (neg_ℤ z) ≤ℚ neg_ℚ x = subst (λ v. v ≤ℚ neg_ℚ x) (int_neg z) (with2 x (int z) (λ c. omega (arith, c.le, c.lt, c.same))) in
    let m = floor_most (neg_ℤ z) (neg_ℚ x) l in
    omega (arith, ints)

-- and one below x is below it
pub ceil_above : (z : ℤ) (x : ℚ) → int z <ℚ x → z <ℤ ceil x
unfolding ceil
ceil_above z x h =
    let l : neg_ℚ x <ℚ int (neg_ℤ z) = subst (λ v. neg_ℚ x <ℚ v) (int_neg z) (with2 x (int z) (λ c. omega (arith, c.le, c.lt, c.same))) in
    let m = floor_below (neg_ℤ z) (neg_ℚ x) l in
    omega (arith, ints)

pub ceil_unique : (x : ℚ) (z : ℤ) → x ≤ℚ int z → int z <ℚ x +ℚ int (pos 1) → ceil x ≡ z
unfolding ceil
ceil_unique x z h k =
    let e = int_neg z in
    let s = int_add (neg_ℤ z) (pos 1) in
    let low : int (neg_ℤ z) ≤ℚ neg_ℚ x = with3 x (int z) (int (neg_ℤ z)) (λ c. omega (arith, c.le, c.lt, c.same)) in
    let high : neg_ℚ x <ℚ int (neg_ℤ z +ℤ pos 1) = subst (λ v. neg_ℚ x <ℚ v) s (with3 x (int z) (int (neg_ℤ z)) (λ c. omega (arith, c.le, c.lt, c.same))) in
    let u = floor_unique (neg_ℚ x) (neg_ℤ z) low high in
    omega (arith, ints, u)

-- of a quotient of integers
pub ceil_frac : (a : ℤ) (d : ℕ) → ceil (frac a d) ≡ neg_ℤ (int_div_euclid (neg_ℤ a) (pos (suc d)))
unfolding ceil
ceil_frac a d = ap neg_ℤ (ap floor (neg_over a d) ∙ floor_frac (neg_ℤ a) d)
