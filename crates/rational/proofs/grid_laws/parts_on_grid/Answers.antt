-- How large the parts of a number on a grid are.
use Rattle.rational.proofs.Laws.{le_trans}
use Rattle.rational.proofs.Integers.{nat_le}
use Rattle.rational.proofs.Grid.{den_bound, num_bound, steps_bound}
use Rattle.rational.proofs.grid_laws.parts_on_grid.Goals as goal

pub returns : goal.returns
returns c = λ d v q some w i. record {
  bottom = den_bound d q some w;
  top = le_trans (nat_le _ _ (num_bound d q some w)) (steps_bound d v q w i);
}
