use Rattle.std.proofs.Common.{sym, true≢false}
use Rattle.curve_deviation.proofs.horizontals.is_reached.Goals as goal

pub is_below-requires-clause-window : goal.is_below-requires-clause-window
is_below-requires-clause-window c = (c.args.k, 0, c.known_window-window.ensures.window)

pub returns-else-is_below : goal.returns-else-is_below
returns-else-is_below c = λ yes. c.if-is_below.ensures.reached c.args.k 0 c.known_window-window.ensures.window (λ e. true≢false (sym e))
