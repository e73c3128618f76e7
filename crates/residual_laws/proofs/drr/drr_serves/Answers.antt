use Rattle.residual_laws.proofs.drr.drr_serves.Goals as goal
use Rattle.residual_laws.proofs.DrrLaw

pub returns : goal.returns
returns c = DrrLaw.drr_serves
