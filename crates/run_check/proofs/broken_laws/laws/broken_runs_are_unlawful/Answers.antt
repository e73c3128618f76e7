use Rattle.run_check.proofs.broken_laws.WholeRuns.{broken_is_unlawful}
use Rattle.run_check.proofs.broken_laws.laws.broken_runs_are_unlawful.Goals as goal

pub returns : goal.returns
returns c = broken_is_unlawful
