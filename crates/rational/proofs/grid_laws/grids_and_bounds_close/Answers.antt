-- Sums, products and quotients on grids and within bounds.
use Rattle.rational.proofs.Grid.{whole_divides, whole_from_divides, whole_weaken, whole_add, whole_sub, whole_neg}
use Rattle.rational.proofs.Grid.{whole_mul, whole_times, whole_div, within_add, within_sub, within_neg, within_mul, within_floor}
use Rattle.rational.proofs.grid_laws.grids_and_bounds_close.Goals as goal

pub returns-clause-grids : goal.returns-clause-grids
returns-clause-grids c = record {
  divides = λ d q. (whole_divides d q, whole_from_divides d q);
  finer = whole_weaken;
  add = whole_add;
  sub = whole_sub;
  neg = whole_neg;
  mul = whole_mul;
  times = whole_times;
  div = λ d a b w v h. (whole_div d a b v w h).whole;
}

pub returns-clause-bounds : goal.returns-clause-bounds
returns-clause-bounds c = record { add = within_add; sub = within_sub; neg = within_neg; mul = within_mul; floor_of = within_floor }
