use Rattle.net_draft.proofs.LeastKey.{unknown_key_is_least}
use Rattle.net_draft.proofs.laws.unknown_key_is_least.Goals as goal

pub returns : goal.returns
returns c = unknown_key_is_least
