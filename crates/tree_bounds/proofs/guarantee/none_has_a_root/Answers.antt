use Rattle.tree_bounds.proofs.guarantee.Rooted as Rooted
use Rattle.tree_bounds.proofs.guarantee.none_has_a_root.Goals as goal

pub returns : goal.returns
returns c = Rooted.none_has_a_root
