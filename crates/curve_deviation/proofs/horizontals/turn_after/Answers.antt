use Rattle.curve_deviation.proofs.horizontals.turn_after.Goals as goal

pub returns-in-Some : goal.returns-in-Some
returns-in-Some c = record { turn = c.turn_in.ensures c.args.first c.in-Some.ensures.window }
