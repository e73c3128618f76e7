-- Sums of times from 0 on.
use Rattle.std.specs.Prelude.{◌≡◌, List, [], ◌∷◌, ◌++◌}
use Rattle.std.proofs.Common.{arith, ap, ◌∙◌}
use Rattle.rational.specs.Rational.{ℚ, ◌+ℚ◌, ◌≤ℚ◌}
use Rattle.rational.proofs.Linear.{with1, with2, with4}
use Rattle.rational.proofs.Laws.{antisym, add_zero}
use Rattle.min_plus.specs.Functions.{zero_q}
use Rattle.min_plus.specs.Convolution.{AllNonneg, sum_of}

pub nonneg_sum : (x y : ℚ) → zero_q ≤ℚ x → zero_q ≤ℚ y → zero_q ≤ℚ x +ℚ y
nonneg_sum x y h k = with2 x y (λ c. omega (arith, c.le, c.lt, c.same))

pub nonneg_total : (xs : List ℚ) → AllNonneg xs → zero_q ≤ℚ sum_of xs
nonneg_total [] n = with1 zero_q (λ c. omega (arith, c.le, c.lt, c.same))
nonneg_total (x ∷ xs) (p, n) = nonneg_sum x (sum_of xs) p (nonneg_total xs n)

pub append_sum : (xs ys : List ℚ) → sum_of (xs ++ ys) ≡ sum_of xs +ℚ sum_of ys
append_sum [] ys = antisym (with1 (sum_of ys) (λ c. omega (arith, c.le, c.lt, c.same)))
append_sum (x ∷ xs) ys =
    let h = append_sum xs ys in
    antisym (with4 x (sum_of xs) (sum_of ys) (sum_of (xs ++ ys)) (λ c. omega (arith, c.le, c.lt, c.same)))

pub sum_more : (xs : List ℚ) (x : ℚ) → sum_of (xs ++ x ∷ []) ≡ sum_of xs +ℚ x
sum_more xs x = append_sum xs (x ∷ []) ∙ ap (λ y. sum_of xs +ℚ y) (add_zero x)
