use Rattle.std.proofs.Common.{sym, subst}
use Rattle.subadd_closure.specs.Thinned.{StartFrom}
use Rattle.subadd_closure.proofs.ThinnedElements.{from_none}
use Rattle.subadd_closure.proofs.covered.few_from.Goals as goal

pub loop-turn-init : goal.loop-turn-init
loop-turn-init c =
    subst (StartFrom c.args.least c.args.elements.now) (sym c.new-few.ensures.items)
    (from_none c.args.least c.args.elements.now)

pub loop-turn-preserved : goal.loop-turn-preserved
loop-turn-preserved c = c.in_ok-push_from.ensures c.loop-turn.invariant
