use Rattle.tree_bounds.proofs.guarantee.Forward.{go_forward}
use Rattle.tree_bounds.proofs.guarantee.orders_go_forward.Goals as goal

pub returns : goal.returns
returns c = go_forward
