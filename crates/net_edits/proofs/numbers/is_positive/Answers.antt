use Rattle.net_edits.proofs.Signs.{above_not}
use Rattle.net_edits.proofs.numbers.is_positive.Goals as goal

pub returns-in_default : goal.returns-in_default
returns-in_default c = above_not c.cmp.result c.args.x c.zero.result c.cmp.ensures.ranks c.in_default.not-Less c.zero.ensures
