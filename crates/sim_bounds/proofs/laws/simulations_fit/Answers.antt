use Rattle.sim_bounds.proofs.Fits.{run_fits}
use Rattle.sim_bounds.proofs.laws.simulations_fit.Goals as goal

pub returns : goal.returns
returns c = run_fits
