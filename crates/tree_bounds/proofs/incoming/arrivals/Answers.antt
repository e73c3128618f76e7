use Rattle.tree_bounds.proofs.PartsMade.{same_incoming}
use Rattle.tree_bounds.proofs.incoming.arrivals.Goals as goal

pub returns : goal.returns
returns c = same_incoming _ _ _ _ c.in_ok-parts.ensures c.longest_in.ensures
