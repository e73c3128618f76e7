use Rattle.rational.proofs.Sizes.{sum_on_grid, difference_on_grid, product_on_grid, quotient_on_grid}
use Rattle.fraction128.proofs.laws.steps_on_grid_fit.Goals as goal

pub returns-clause-sum : goal.returns-clause-sum
returns-clause-sum c = λ d v w a b h k l. sum_on_grid d v w a b h.some k l h.left h.right h.left_within h.right_within

pub returns-clause-difference : goal.returns-clause-difference
returns-clause-difference c = λ d v w a b h k l. difference_on_grid d v w a b h.some k l h.left h.right h.left_within h.right_within

pub returns-clause-product : goal.returns-clause-product
returns-clause-product c = λ d e v w a b s t p q i j k l. product_on_grid d e v w a b s t k l p q i j

pub returns-clause-quotient : goal.returns-clause-quotient
returns-clause-quotient c = λ d v w a b h n k l. quotient_on_grid d v w a b h.some n k l h.left h.right h.left_within h.right_within
