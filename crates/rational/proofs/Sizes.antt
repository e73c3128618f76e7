-- A number on a grid and within a bound has small parts, and so have sums, products and quotients of such numbers:
-- both parts below 2 ^ 127.
use Rattle.std.specs.Prelude.{◌≡◌, ◌≢◌, ℕ, suc, ◌*◌, ◌/◌, ◌<◌, ◌≤◌, ℤ, pos, ◌+ℤ◌, ◌*ℤ◌, nat_abs}
use Rattle.std.proofs.Common.{arith, ap, ◌∙◌, refl, subst}
use native.Mathlib.Nat.{le_of_dvd, mul-pos}
use Rattle.rational.specs.Gcd.{gcd}
use Rattle.rational.specs.Ints.{diffs, diff_is, diff_same}
use Rattle.rational.proofs.Over.{mul_frac}
use Rattle.rational.specs.Rational.{ℚ, den, ◌+ℚ◌, ◌*ℚ◌, ◌/ℚ◌, neg_ℚ, ◌≤ℚ◌, int, both}
use Rattle.rational.specs.Fractions.{frac_self, frac-same}
use Rattle.rational.specs.Ratio.{IsSmall, SumFits}
use Rattle.rational.proofs.Parts.{abs_some}
use Rattle.rational.specs.Gauge.{lcm}
use Rattle.rational.specs.Grid.{Whole, Within}
use Rattle.rational.proofs.Integers.{nat_le, nat_nonneg, nat_le_out}
use Rattle.rational.proofs.Multiples.{lcm_least, lcm_swap}
use Rattle.rational.proofs.Gauges.{den_pos}
use Rattle.rational.proofs.Laws.{le_trans, mul_le_mul, mul_le_mul_right, add_comm, num_some}
use Rattle.rational.proofs.Linear.{with2}
use Rattle.rational.proofs.Grid.{whole_divides, steps_add, whole_neg, whole_mul, whole_div, within_some, within_add}
use Rattle.rational.proofs.Grid.{within_neg, within_mul, den_bound, num_bound, num_within, steps_bound}

-- the largest number of 127 bits
abbrev pub largest_part : ℕ
largest_part = 170141183460469231731687303715884105727

pub small_on_grid : (d : ℕ) (v q : ℚ) → 0 < d → d ≤ largest_part → v *ℚ int (pos d) ≤ℚ int (pos largest_part)
    → Whole d q → Within v q → IsSmall q
small_on_grid d v q some fits_d fits_v w i =
    let t = num_within d v q largest_part some w i fits_v in
    let b = den_bound d q some w in
    record { top = omega arith; bottom = omega arith }

-- a product
pub product_on_grid : (d e : ℕ) (v w a b : ℚ) → 0 < d → 0 < e → d * e ≤ largest_part
    → (v *ℚ w) *ℚ int (pos (d * e)) ≤ℚ int (pos largest_part)
    → Whole d a → Whole e b → Within v a → Within w b → IsSmall (a *ℚ b)
product_on_grid d e v w a b some_d some_e fits_d fits_v wa wb ia ib =
    small_on_grid (d * e) (v *ℚ w) (a *ℚ b) (mul-pos some_d some_e) fits_d fits_v (whole_mul d e a b wa wb) (within_mul v w a b ia ib)

-- a number on a grid that is not 0 is some steps from it
steps_some : (d : ℕ) (q : ℚ) → 0 < d → (w : Whole d q) → q ≢ int (pos 0) → 0 < nat_abs w.steps
steps_some d q some w h =
    let l = num_bound d q some w in
    let s = abs_some q.num (num_some q h) in
    omega arith

-- a quotient of two numbers on one grid
pub quotient_on_grid : (d : ℕ) (v w a b : ℚ) → 0 < d → b ≢ int (pos 0) → v *ℚ int (pos d) ≤ℚ int (pos largest_part)
    → w *ℚ int (pos d) ≤ℚ int (pos largest_part)
    → Whole d a → Whole d b → Within v a → Within w b → IsSmall (a /ℚ b)
quotient_on_grid d v w a b some h fits_v fits_w wa wb ia ib =
    let q = whole_div d a b wa wb h in
    let p = nat_le_out _ _ (le_trans (steps_bound d v a wa ia) fits_v) in
    let r = nat_le_out _ _ (le_trans (steps_bound d w b wb ib) fits_w) in
    let some_r : 0 < nat_abs wb.steps = steps_some d b some wb h in
    let n = num_bound (nat_abs wb.steps) (a /ℚ b) some_r q.whole in
    let m = den_bound (nat_abs wb.steps) (a /ℚ b) some_r q.whole in
    let s = q.size in
    record { top = omega arith; bottom = omega arith }

-- a sum: over the least common denominator, each numerator and their sum are steps on a grid that d refines
pub sum_on_grid : (d : ℕ) (v w a b : ℚ) → 0 < d → d ≤ largest_part → (v +ℚ w) *ℚ int (pos d) ≤ℚ int (pos largest_part)
    → Whole d a → Whole d b → Within v a → Within w b → SumFits a b
sum_on_grid d v w a b some fits_d fits_v wa wb ia ib =
    let m = lcm (den a) (den b) in
    let m_le : m ≤ d = le_of_dvd some (lcm_least (den a) (den b) d (den_pos a) (den_pos b) (whole_divides d a wa) (whole_divides d b wb)) in
    let left : Whole m a = record { steps = a.num *ℤ pos (den b / gcd (den a) (den b)); is = over_multiple (den b / gcd (den a) (den b)) m a (lcm_swap (den a) (den b)) } in
    let right : Whole m b = record { steps = b.num *ℤ pos (den a / gcd (den a) (den b)); is = over_multiple (den a / gcd (den a) (den b)) m b refl } in
    let both_terms : Whole m (a +ℚ b) = record { steps = left.steps +ℤ right.steps; is = steps_add m a b left right } in
    let some_v = within_some v a ia in
    let some_w = within_some w b ib in
    let fits_left = le_trans (on_coarser m d v m_le some_v) (le_trans (less_of_sum (int (pos d)) v w (nat_nonneg d) some_w) fits_v) in
    let fits_right = le_trans (on_coarser m d w m_le some_w) (le_trans (subst (λ x. w *ℚ int (pos d) ≤ℚ x *ℚ int (pos d)) (add_comm w v) (less_of_sum (int (pos d)) w v (nat_nonneg d) some_v)) fits_v) in
    let fits_sum = le_trans (on_coarser m d (v +ℚ w) m_le (add_nonneg some_v some_w)) fits_v in
    let p : nat_abs left.steps ≤ largest_part = nat_le_out _ _ (le_trans (steps_bound m v a left ia) fits_left) in
    let q : nat_abs right.steps ≤ largest_part = nat_le_out _ _ (le_trans (steps_bound m w b right ib) fits_right) in
    let r : nat_abs (left.steps +ℤ right.steps) ≤ largest_part = nat_le_out _ _ (le_trans (steps_bound m (v +ℚ w) (a +ℚ b) both_terms (within_add v w a b ia ib)) fits_sum) in
    record { left = omega arith; right = omega arith; sum = omega arith; bottom = omega arith }
  where
    over_multiple : (k m : ℕ) (q : ℚ) → k * den q ≡ m → q *ℚ int (pos m) ≡ int (q.num *ℤ pos k)
    over_multiple k m q e = ap (λ x. x *ℚ int (pos m)) (frac_self q) ∙ mul_frac q.num q.pre (pos m) 0 ∙ frac-same _ _ _ _ (crossed q.num k m q.pre e)
      where
        crossed : (a : ℤ) (k m p : ℕ) → k * suc p ≡ m → (a *ℤ pos m) *ℤ pos 1 ≡ (a *ℤ pos k) *ℤ pos (suc (both p 0))
        crossed a k m p e = rw (← e, diff_is a) (simp diffs (diff_same _ _ _ _ (omega arith)))

    on_coarser : (m d : ℕ) (v : ℚ) → m ≤ d → int (pos 0) ≤ℚ v → v *ℚ int (pos m) ≤ℚ v *ℚ int (pos d)
    on_coarser m d v h s = mul_le_mul v s (nat_le m d h)

    add_nonneg : {x y : ℚ} → int (pos 0) ≤ℚ x → int (pos 0) ≤ℚ y → int (pos 0) ≤ℚ x +ℚ y
    add_nonneg {x} {y} h k = with2 x y (λ c. omega (arith, c.le, c.lt, c.same))

    less_of_sum : (d v w : ℚ) → int (pos 0) ≤ℚ d → int (pos 0) ≤ℚ w → v *ℚ d ≤ℚ (v +ℚ w) *ℚ d
    less_of_sum d v w h k = mul_le_mul_right d h (with2 v w (λ c. omega (arith, c.le, c.lt, c.same)))

-- a difference
pub difference_on_grid : (d : ℕ) (v w a b : ℚ) → 0 < d → d ≤ largest_part
    → (v +ℚ w) *ℚ int (pos d) ≤ℚ int (pos largest_part)
    → Whole d a → Whole d b → Within v a → Within w b → SumFits a (neg_ℚ b)
difference_on_grid d v w a b some fits_d fits_v wa wb ia ib =
    sum_on_grid d v w a (neg_ℚ b) some fits_d fits_v wa (whole_neg d b wb) ia (within_neg w b ib)
