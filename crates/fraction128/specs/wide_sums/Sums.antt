-- Sums of products of fractions. Textbook.
use Rattle.std.specs.Prelude.{◌≡◌, ◌+◌, ◌*◌, ◌≤◌, pos, List, [], ◌∷◌}
use Rattle.std.specs.List.{AllByRecursion}
use Rattle.arrayvec.specs.ArrayVec.{array_vec_len}
use Rattle.rational.specs.Rational.{ℚ, int, over, ◌+ℚ◌, ◌*ℚ◌, ◌≤ℚ◌}
use Rattle.fraction128.specs.declared.wide_sums.products.Product.{Product}
use Rattle.fraction128.specs.declared.wide_sums.products.WideSum.{WideSum}
use Rattle.fraction128.specs.wide_sums.Words.{number}
use Rattle.fraction128.specs.wide_sums.Factors.{IsFactor, product}

-- both factors are at least 0
pub record IsFromZero (p : Product) : Type 0 where
  pub left : int (pos 0) ≤ℚ p.left
  pub right : int (pos 0) ≤ℚ p.right

abbrev pub sum_of_products : List Product → ℚ
sum_of_products [] = int (pos 0)
sum_of_products (p ∷ ps) = p.left *ℚ p.right +ℚ sum_of_products ps

-- s is the wide number over the product of the factors
pub record IsSumOf (s : ℚ) (w : WideSum) : Type 0 where
  pub is : s ≡ over (pos (number w.top.items)) (number w.bottom.items)
  pub bottom : number w.bottom.items ≡ product w.factors.items
  pub factors : AllByRecursion IsFactor w.factors.items

-- the product of the factors has two words a factor and one more, and the number two more than that
pub record HasRoom (w : WideSum) : Type 0 where
  pub top : array_vec_len w.top ≤ 2 * array_vec_len w.factors + 3
  pub bottom : array_vec_len w.bottom ≤ 2 * array_vec_len w.factors + 1
