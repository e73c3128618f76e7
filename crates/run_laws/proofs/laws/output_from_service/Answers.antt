use Rattle.run_laws.proofs.laws.output_from_service.Goals as goal
use Rattle.run_laws.proofs.Outputs

pub returns : goal.returns
returns c = Outputs.output_from_service
