use Rattle.run_laws.proofs.laws.flow_is_of_one_queue.Goals as goal
use Rattle.run_laws.proofs.Classes

pub returns : goal.returns
returns c = record { queue = Classes.flow_of_queue; part = Classes.flow_is_part }
