use Rattle.run_laws.proofs.laws.packets_are_served.Goals as goal
use Rattle.run_laws.proofs.Service

pub returns : goal.returns
returns c = Service.packets_are_served
