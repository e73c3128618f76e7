use Rattle.std.proofs.Common.{sym, subst}
use Rattle.rational.specs.Rational.{◌≤ℚ◌}
use Rattle.rational.proofs.Compared.{least_by_test}
use Rattle.subadd_closure.specs.Thinned.{StartFrom}
use Rattle.subadd_closure.proofs.ThinnedElements.{from_push}
use Rattle.subadd_closure.proofs.covered.push_from.Goals as goal

pub returns : goal.returns
returns c all =
    subst (StartFrom c.args.least c.args.elements.now) (sym c.in_ok-push.ensures.items)
    (from_push c.args.least c.args.elements.now c.args.few.now.items c.args.k c.index-elements-k.result c.if-k-elements.false
    c.index-elements-k.is
    (subst (λ z. c.args.least ≤ℚ z) c.start_of.ensures (least_by_test c.start_of.result c.args.least c.if-is_less.ensures.less))
    all)
