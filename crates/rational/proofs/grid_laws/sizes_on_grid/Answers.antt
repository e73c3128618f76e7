-- The sizes of a number and of the numbers on the way to a sum.
use Rattle.rational.proofs.Sizes.{small_on_grid, sum_on_grid}
use Rattle.rational.proofs.grid_laws.sizes_on_grid.Goals as goal

pub returns-clause-number : goal.returns-clause-number
returns-clause-number c = small_on_grid

pub returns-clause-sum : goal.returns-clause-sum
returns-clause-sum c = sum_on_grid
