use Rattle.curve_deviation.proofs.PeriodsFound.{no_turn}
use Rattle.curve_deviation.proofs.horizontals.periods_of.Goals as goal

pub returns-in-None-turn_after : goal.returns-in-None-turn_after
returns-in-None-turn_after c = no_turn c.args.f.now c.args.g.now c.in-Some.first c.keeps.ensures c.keeps-2.ensures c.in-Some.ensures c.in-None-turn_after.ensures.turn
