use Rattle.commands.proofs.simulate.OneReply.{replies_are_determined}
use Rattle.commands.proofs.simulate.laws.replies_are_determined.Goals as goal

pub returns : goal.returns
returns c = replies_are_determined
