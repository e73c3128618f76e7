use Rattle.bounds_command.proofs.Told.{reports_tell_bounds}
use Rattle.bounds_command.proofs.laws.reports_tell_bounds.Goals as goal

pub returns : goal.returns
returns c = reports_tell_bounds
