use Rattle.commands.proofs.analyse.OneReply.{replies_are_complete}
use Rattle.commands.proofs.analyse.laws.replies_are_complete.Goals as goal

pub returns : goal.returns
returns c = replies_are_complete
