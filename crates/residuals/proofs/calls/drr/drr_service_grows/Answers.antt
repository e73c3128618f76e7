use Rattle.residuals.proofs.calls.DrrGrowth.{service_grows, curve_grows}
use Rattle.residuals.proofs.calls.drr.drr_service_grows.Goals as goal

pub returns-clause-service : goal.returns-clause-service
returns-clause-service c = service_grows

pub returns-clause-curve : goal.returns-clause-curve
returns-clause-curve c = curve_grows
