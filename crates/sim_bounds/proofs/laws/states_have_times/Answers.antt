use Rattle.sim_bounds.proofs.TimesOf.{times_of}
use Rattle.sim_bounds.proofs.laws.states_have_times.Goals as goal

pub returns : goal.returns
returns c = times_of
