use Rattle.netbound_cli.proofs.Outcomes.{replies_are_determined}
use Rattle.netbound_cli.proofs.laws.replies_are_determined.Goals as goal

pub returns : goal.returns
returns c = replies_are_determined
