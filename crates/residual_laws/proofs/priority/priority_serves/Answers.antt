use Rattle.residual_laws.proofs.priority.priority_serves.Goals as goal
use Rattle.residual_laws.proofs.PriorityLaw

pub returns : goal.returns
returns c = PriorityLaw.priority_serves
