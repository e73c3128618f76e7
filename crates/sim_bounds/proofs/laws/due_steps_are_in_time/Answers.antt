use Rattle.sim_bounds.proofs.TimesOf.{due_in_time}
use Rattle.sim_bounds.proofs.laws.due_steps_are_in_time.Goals as goal

pub returns : goal.returns
returns c = due_in_time
