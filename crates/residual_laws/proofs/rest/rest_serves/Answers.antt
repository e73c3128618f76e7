use Rattle.residual_laws.proofs.RestLaw
use Rattle.residual_laws.proofs.rest.rest_serves.Goals as goal

pub returns : goal.returns
returns c = record { served = RestLaw.rest_serves; since = RestLaw.rest_serves_since }
