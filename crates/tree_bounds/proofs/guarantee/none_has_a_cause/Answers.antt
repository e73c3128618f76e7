use Rattle.tree_bounds.proofs.guarantee.Caused as Caused
use Rattle.tree_bounds.proofs.guarantee.none_has_a_cause.Goals as goal

pub returns : goal.returns
returns c = Caused.none_has_a_cause
