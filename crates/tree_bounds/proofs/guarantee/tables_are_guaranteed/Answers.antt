use Rattle.tree_bounds.proofs.guarantee.Branched.{tables_keep}
use Rattle.tree_bounds.proofs.guarantee.tables_are_guaranteed.Goals as goal

pub returns : goal.returns
returns c = tables_keep
