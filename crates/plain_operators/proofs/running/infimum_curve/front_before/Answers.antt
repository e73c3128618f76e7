use Rattle.std.proofs.Common.{◌+◌, sym, subst}
use Rattle.rational.proofs.Compared.{is_less, not_less}
use Rattle.plain_operators.proofs.running.Fronts.{FrontLoop, front_step, front_stop}
use Rattle.plain_operators.proofs.running.infimum_curve.front_before.Goals as goal

pub returns-in_default : goal.returns-in_default
returns-in_default c =
    front_stop c.args.pieces.now c.args.end c.loop-p.p-index c.loop-p.front.items c.p-item.result c.loop-p.invariant c.loop-p-test.true c.p-item.is
    (not_less c.cmp.result c.cmp.ensures.ranks c.in_default.not-Less)

pub loop-p-preserved : goal.loop-p-preserved
loop-p-preserved c =
    subst (FrontLoop c.args.pieces.now c.args.end (c.loop-p.p-index + 1)) (sym c.in_ok-push-in-Less.ensures.items)
    (front_step c.args.pieces.now c.args.end c.loop-p.p-index c.loop-p.front.items c.p-item.result c.loop-p.invariant c.loop-p-test.true c.p-item.is (is_less c.cmp.result c.cmp.ensures.ranks c.in-Less.is))
