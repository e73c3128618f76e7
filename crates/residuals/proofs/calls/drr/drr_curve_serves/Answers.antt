use Rattle.residuals.proofs.calls.DrrCalls.{curve_serves}
use Rattle.residuals.proofs.calls.drr.drr_curve_serves.Goals as goal

pub returns : goal.returns
returns c = curve_serves
