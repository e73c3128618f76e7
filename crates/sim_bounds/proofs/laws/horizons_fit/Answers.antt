use Rattle.sim_bounds.proofs.WayFits.{horizon_fits}
use Rattle.sim_bounds.proofs.laws.horizons_fit.Goals as goal

pub returns : goal.returns
returns c = horizon_fits
