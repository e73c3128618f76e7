use Rattle.bounds_command.proofs.OneReply.{statuses_have_causes}
use Rattle.bounds_command.proofs.laws.statuses_have_causes.Goals as goal

pub returns : goal.returns
returns c = statuses_have_causes
