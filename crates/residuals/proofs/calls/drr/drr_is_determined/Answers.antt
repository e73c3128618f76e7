use Rattle.residuals.proofs.calls.DrrCalls.{is_determined}
use Rattle.residuals.proofs.calls.drr.drr_is_determined.Goals as goal

pub returns : goal.returns
returns c = is_determined
