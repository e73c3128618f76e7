use Rattle.std.proofs.Common.{refl}
use Rattle.subadd_closure.proofs.OrderedCurves.{time_in}
use Rattle.subadd_closure.proofs.ordered.order_at.Goals as goal

pub is_below-requires-clause-window : goal.is_below-requires-clause-window
is_below-requires-clause-window c =
    let (z, V, W, T, on) = c.requires.window in
    (z, V, W, time_in z c.args.end c.args.from c.args.own c.in_ok-t.t T on c.in_ok-t.ensures)

pub returns-then-is_below : goal.returns-then-is_below
returns-then-is_below c = record { time = c.in_ok-t.ensures; below = c.if-is_below.ensures refl }
