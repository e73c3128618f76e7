use Rattle.run_laws.proofs.laws.delay_from_service.Goals as goal
use Rattle.run_laws.proofs.Classes

pub returns : goal.returns
returns c = Classes.delay_from_service
