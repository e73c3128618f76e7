use Rattle.std.proofs.Common.{arith}
use Rattle.curve_deviation.proofs.PeriodsFound.{narrow_with}
use Rattle.curve_deviation.proofs.SoonerLags.{all_periods, fewer_enough}
use Rattle.curve_deviation.proofs.horizontals.last_time.Goals as goal

pub turn_in-turn-requires-clause-window : goal.turn_in-turn-requires-clause-window
turn_in-turn-requires-clause-window c = (c.args.periods.now.first, c.known_window-window.ensures.window)

pub known_window-early-requires : goal.known_window-early-requires
known_window-early-requires c =
    narrow_with c.args.f.now c.args.g.now c.fewer_periods-k.result 0 c.args.periods.now.first 0 c.keeps.ensures c.keeps-2.ensures c.fewer_periods-k.ensures.few (omega arith) c.requires.narrow

pub turn_in-sooner-requires-clause-window : goal.turn_in-sooner-requires-clause-window
turn_in-sooner-requires-clause-window c = (c.fewer_periods-k.result, c.known_window-early.ensures.window)

pub returns-then-periods-eq0 : goal.returns-then-periods-eq0
returns-then-periods-eq0 c = all_periods c.args.f.now c.args.g.now c.args.periods.now.first c.args.periods.now.until c.requires.until

pub returns : goal.returns
returns c =
    let n = c.args.periods.now.first in
    fewer_enough c.args.f.now c.args.g.now n c.fewer_periods-k.result c.turn_in-turn.result c.turn_in-sooner.result c.fewer_periods-k.ensures.few
    (c.turn_in-turn.ensures n c.known_window-window.ensures.window) (c.turn_in-sooner.ensures c.fewer_periods-k.result c.known_window-early.ensures.window) c.fewer_periods-k.ensures.reached
