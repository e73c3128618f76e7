use Rattle.net_draft.proofs.LeastKey.{keys_ascend}
use Rattle.net_draft.proofs.laws.keys_ascend.Goals as goal

pub returns : goal.returns
returns c = keys_ascend c.args.table.now.entries c.iter-members.ensures.ordered
