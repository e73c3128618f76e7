use Rattle.subadd_closure.proofs.ThinnedElements.{at_most}
use Rattle.subadd_closure.proofs.thinned.is_at_most.Goals as goal

pub returns : goal.returns
returns c = at_most c.is_less.result c.args.a c.args.b c.is_less.ensures.less
