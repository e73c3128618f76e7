use Rattle.commands.proofs.analyse.OneReply.{replies_are_determined}
use Rattle.commands.proofs.analyse.laws.replies_are_determined.Goals as goal

pub returns : goal.returns
returns c = replies_are_determined
