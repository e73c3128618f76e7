use Rattle.residuals.proofs.calls.PriorityCalls.{curve_serves}
use Rattle.residuals.proofs.calls.priority.priority_curve_serves.Goals as goal

pub returns : goal.returns
returns c = curve_serves
