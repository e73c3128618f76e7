use Rattle.run_check.proofs.broken_laws.WholeRuns.{unbroken_is_lawful}
use Rattle.run_check.proofs.broken_laws.laws.unbroken_runs_are_lawful.Goals as goal

pub returns : goal.returns
returns c = unbroken_is_lawful
