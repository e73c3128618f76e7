use Rattle.worked_runs.proofs.two_priorities_reach_their_bounds.Goals as goal
use Rattle.worked_runs.proofs.TwoPriorities

pub returns : goal.returns
returns c = TwoPriorities.two_priorities_reach_their_bounds
