use Rattle.std.proofs.Common.{arith}
use Rattle.curve_deviation.proofs.PeriodsFound.{narrow_with, guessed_found}
use Rattle.curve_deviation.proofs.horizontals.guessed_call.Goals as goal

pub is_first-requires-clause-narrow : goal.is_first-requires-clause-narrow
is_first-requires-clause-narrow c = c.in-Ok.ensures.frame.gauge

pub settled_window-settled-requires-clause-narrow : goal.settled_window-settled-requires-clause-narrow
settled_window-settled-requires-clause-narrow c =
    let n = c.in_ok-numbers.numbers in
    narrow_with c.args.f.now c.args.g.now n.first 0 n.first n.second c.keeps.ensures c.keeps-2.ensures (omega arith) (omega arith) c.in-Ok.ensures.frame.gauge

pub turn_in-turn-requires-clause-window : goal.turn_in-turn-requires-clause-window
turn_in-turn-requires-clause-window c = (c.in_ok-numbers.numbers.first, c.settled_window-settled.ensures)

pub is_first-requires-clause-window : goal.is_first-requires-clause-window
is_first-requires-clause-window c = c.settled_window-settled.ensures

-- the call's own window
pub reaches_at-requires-clause-window : goal.reaches_at-requires-clause-window
reaches_at-requires-clause-window c =
    let r = c.in-Ok.ensures.frame in
    record { window = record { start = r.start; period = r.period; end = r.end }; gauge = r.gauge }

pub reaches_at-requires-clause-narrow : goal.reaches_at-requires-clause-narrow
reaches_at-requires-clause-narrow c = c.in-Ok.ensures.frame.gauge

pub returns : goal.returns
returns c =
    let n = c.in_ok-numbers.numbers in
    let found = guessed_found c.args.f.now c.args.g.now n.first n.second c.turn_in-turn.result (c.is_first.ensures c.if-not-is_first.false) (c.turn_in-turn.ensures n.first c.settled_window-settled.ensures)
    (c.reaches_at.ensures.below c.if-not-reaches_at.false) (c.reaches_at.ensures.reached c.if-not-reaches_at.false) in
    record { found = found; frame = c.in-Ok.ensures.frame }
