use Rattle.run_check.proofs.broken_laws.WholeRuns.{first_once}
use Rattle.run_check.proofs.broken_laws.laws.first_broken_is_one.Goals as goal

pub returns : goal.returns
returns c = first_once
