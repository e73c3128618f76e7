use Rattle.tree_bounds.proofs.guarantee.LoadsApart.{overload_is_load}
use Rattle.tree_bounds.proofs.guarantee.overloads_are_loads.Goals as goal

pub returns : goal.returns
returns c = overload_is_load
