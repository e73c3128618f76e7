use Rattle.run_laws.proofs.laws.delay_from_wait.Goals as goal
use Rattle.run_laws.proofs.Classes
use Rattle.run_laws.proofs.Delay

pub returns : goal.returns
returns c = record { delay = Classes.delay_from_wait; one_wait = Delay.one_wait_is_enough }
