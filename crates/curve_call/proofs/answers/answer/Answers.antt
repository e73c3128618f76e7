use Rattle.std.proofs.Common.{subst, sym, ◌<◌, ◌^◌}
use Rattle.upp_curve.specs.Curve.{value_at}
use Rattle.curve_call.proofs.Answering.{small_grids, answer_room_is, answer_grids, periodic_grids}
use Rattle.curve_call.proofs.answers.answer.Goals as goal

pub normalise_on-requires-clause-times : goal.normalise_on-requires-clause-times
normalise_on-requires-clause-times c = let h = c.requires in subst (λ n. n < 2 ^ 127) (sym h.times_is) (small_grids h.sizes h.end h.limited).1

pub normalise_on-requires-clause-values : goal.normalise_on-requires-clause-values
normalise_on-requires-clause-values c = let h = c.requires in subst (λ n. n < 2 ^ 127) (sym h.values_is) (small_grids h.sizes h.end h.limited).3

pub normalise_on-requires-clause-grids : goal.normalise_on-requires-clause-grids
normalise_on-requires-clause-grids c =
    let a = c.args in
    periodic_grids a.pieces.items a.from a.period a.rise a.times a.values (answer_grids a.pieces.items a.from a.period a.rise a.times a.values c.requires)

pub normalise_on-requires-clause-room : goal.normalise_on-requires-clause-room
normalise_on-requires-clause-room c = let a = c.args in answer_room_is a.pieces.items a.from a.period a.rise a.times a.values c.requires

pub returns : goal.returns
unfolding value_at
returns c = c.normalise_on.ensures
