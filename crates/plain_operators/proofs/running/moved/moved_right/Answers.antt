use Rattle.std.proofs.Common.{◌+◌, drop, sym, subst, refl, true≢false}
use Rattle.rational.proofs.Laws.{le_of_not_lt}
use Rattle.plain_operators.proofs.running.MovedLoop.{MovedLoop, moved_step, moved_stop, moved_end}
use Rattle.plain_operators.proofs.running.moved.moved_right.Goals as goal

pub returns-then-not-is_less : goal.returns-then-not-is_less
returns-then-not-is_less c =
    moved_stop c.args.theta c.args.end c.args.pieces.now c.loop-p.moved.items c.loop-p.p-index c.p-item.result c.moved_piece-q.result c.loop-p.invariant c.loop-p-test.true c.p-item.is c.moved_piece-q.ensures
    (le_of_not_lt (λ h. true≢false (sym (c.if-not-is_less.ensures.less.1 h))))

pub loop-p-preserved : goal.loop-p-preserved
loop-p-preserved c =
    subst (MovedLoop c.args.theta c.args.end c.args.pieces.now (drop (c.loop-p.p-index + 1) c.args.pieces.now)) (sym c.in_ok-push.ensures.items)
    (moved_step c.args.theta c.args.end c.args.pieces.now c.loop-p.moved.items c.loop-p.p-index c.p-item.result c.moved_piece-q.result c.loop-p.invariant c.loop-p-test.true c.p-item.is c.moved_piece-q.ensures
    (c.if-not-is_less.ensures.less.0 refl))

pub returns : goal.returns
returns c = moved_end c.args.theta c.args.end c.args.pieces.now c.loop-p.moved.items c.loop-p.p-index c.loop-p.invariant c.loop-p-test.false
