use Rattle.tree_bounds.proofs.guarantee.LoadOrLimit.{none_has_a_load_or_limit}
use Rattle.tree_bounds.proofs.guarantee.none_has_a_load_or_limit.Goals as goal

pub returns : goal.returns
returns c = none_has_a_load_or_limit
