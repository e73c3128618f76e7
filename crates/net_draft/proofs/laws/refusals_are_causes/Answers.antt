use Rattle.net_draft.proofs.Causes.{refusals_are_causes}
use Rattle.net_draft.proofs.laws.refusals_are_causes.Goals as goal

pub returns : goal.returns
returns c = refusals_are_causes
