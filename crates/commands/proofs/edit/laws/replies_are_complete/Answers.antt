use Rattle.commands.proofs.edit.Promised.{replies_are_complete}
use Rattle.commands.proofs.edit.laws.replies_are_complete.Goals as goal

pub returns : goal.returns
returns c = replies_are_complete
