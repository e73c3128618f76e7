use Rattle.worked_trees.proofs.own_period_is_too_short.Goals as goal
use Rattle.worked_trees.proofs.OwnPeriod

pub returns : goal.returns
returns c = OwnPeriod.own_period_is_too_short
