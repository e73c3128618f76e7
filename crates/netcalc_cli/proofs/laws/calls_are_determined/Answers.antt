use Rattle.netcalc_cli.proofs.Equal.{calls_are_determined}
use Rattle.netcalc_cli.proofs.laws.calls_are_determined.Goals as goal

pub returns : goal.returns
returns c = calls_are_determined
