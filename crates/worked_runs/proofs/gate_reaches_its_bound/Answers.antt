use Rattle.worked_runs.proofs.gate_reaches_its_bound.Goals as goal
use Rattle.worked_runs.proofs.OneGate

pub returns : goal.returns
returns c = OneGate.gate_reaches_its_bound
