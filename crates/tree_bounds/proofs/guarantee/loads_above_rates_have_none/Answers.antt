use Rattle.tree_bounds.proofs.guarantee.Overloads.{load_above_rate_has_none}
use Rattle.tree_bounds.proofs.guarantee.loads_above_rates_have_none.Goals as goal

pub returns : goal.returns
returns c = load_above_rate_has_none
