use Rattle.bounds_command.proofs.OneReply.{replies_are_complete}
use Rattle.bounds_command.proofs.laws.replies_are_complete.Goals as goal

pub returns : goal.returns
returns c = replies_are_complete
