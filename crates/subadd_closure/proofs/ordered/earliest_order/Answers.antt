use Rattle.std.proofs.Common.{subst, sym}
use Rattle.subadd_closure.specs.Ordered.{IsOrderTime}
use Rattle.subadd_closure.proofs.OrderedCurves.{first_time}
use Rattle.subadd_closure.proofs.ordered.earliest_order.Goals as goal
use Rattle.subadd_closure.proofs.ordered.earliest_order.Goals.{in-Some, in-None}

pub loop-turn-init : goal.loop-turn-init
loop-turn-init c =
    let (z, V, W, T, on) = c.requires.window in
    record { time = first_time c.args.from c.args.own T.nonneg; below = c.requires.below }

pub loop-turn-preserved : goal.loop-turn-preserved
loop-turn-preserved c =
    let P = IsOrderTime c.args.slow.now c.args.fast.now c.args.from c.args.own c.args.end in
    elim c.match-order_at.branch [
      | in-Some w ↦ subst P (sym w.early-is) w.in-Some.ensures
      | in-None w ↦ subst P (sym w.early-is) c.loop-turn.invariant
    ]

pub order_at-requires-clause-late : goal.order_at-requires-clause-late
order_at-requires-clause-late c = c.loop-turn.invariant.below
