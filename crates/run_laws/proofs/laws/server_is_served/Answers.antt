use Rattle.run_laws.proofs.laws.server_is_served.Goals as goal
use Rattle.run_laws.proofs.Service

pub returns : goal.returns
returns c = Service.server_is_served
