use Rattle.netcalc_cli.proofs.Equal.{replies_are_determined}
use Rattle.netcalc_cli.proofs.laws.replies_are_determined.Goals as goal

pub returns : goal.returns
returns c = replies_are_determined
