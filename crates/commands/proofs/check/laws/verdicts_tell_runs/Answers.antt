use Rattle.commands.proofs.check.Verdicts.{verdicts}
use Rattle.commands.proofs.check.laws.verdicts_tell_runs.Goals as goal

pub returns : goal.returns
returns c = verdicts
