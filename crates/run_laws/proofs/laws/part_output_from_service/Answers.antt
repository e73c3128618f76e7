use Rattle.run_laws.proofs.laws.part_output_from_service.Goals as goal
use Rattle.run_laws.proofs.Classes

pub returns : goal.returns
returns c = Classes.part_output_from_service
