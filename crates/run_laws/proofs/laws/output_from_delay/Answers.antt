use Rattle.run_laws.proofs.laws.output_from_delay.Goals as goal
use Rattle.run_laws.proofs.Classes

pub returns : goal.returns
returns c = Classes.output_from_delay
