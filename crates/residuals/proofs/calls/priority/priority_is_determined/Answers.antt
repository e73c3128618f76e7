use Rattle.residuals.proofs.calls.PriorityCalls.{is_determined}
use Rattle.residuals.proofs.calls.priority.priority_is_determined.Goals as goal

pub returns : goal.returns
returns c = is_determined
