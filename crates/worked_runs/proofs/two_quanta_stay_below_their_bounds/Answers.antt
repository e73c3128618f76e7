use Rattle.worked_runs.proofs.two_quanta_stay_below_their_bounds.Goals as goal
use Rattle.worked_runs.proofs.TwoQuanta

pub returns : goal.returns
returns c = TwoQuanta.two_quanta_stay_below_their_bounds
