use Rattle.sim_bounds.proofs.TimesOf.{due_on_grid}
use Rattle.sim_bounds.proofs.laws.due_steps_are_on_grid.Goals as goal

pub returns : goal.returns
returns c = due_on_grid
