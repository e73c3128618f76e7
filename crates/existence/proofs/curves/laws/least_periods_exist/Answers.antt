use Rattle.existence.proofs.curves.Least.{least_of}
use Rattle.existence.proofs.curves.laws.least_periods_exist.Goals as goal

pub returns : goal.returns
returns c = least_of
