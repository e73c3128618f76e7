use Rattle.existence.proofs.scripts.Replies.{scripts_have}
use Rattle.existence.proofs.scripts.laws.scripts_have_replies.Goals as goal

pub returns : goal.returns
returns c = scripts_have
