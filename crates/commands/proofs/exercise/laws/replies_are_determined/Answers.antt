use Rattle.commands.proofs.exercise.OneReply.{replies_are_determined}
use Rattle.commands.proofs.exercise.laws.replies_are_determined.Goals as goal

pub returns : goal.returns
returns c = replies_are_determined
