use Rattle.std.specs.Prelude.{◌<◌, ◌^◌}
use Rattle.std.proofs.Common.{subst, sym, arith}
use Rattle.measure_curve.proofs.Answers.{last_short, stair_curve}
use Rattle.measure_curve.proofs.staircase.staircase.Goals as goal

pub time_of-rank-requires-clause-ticks : goal.time_of-rank-requires-clause-ticks
time_of-rank-requires-clause-ticks c =
    subst (λ n. n < 2 ^ 127) (sym c.last_length.ensures) (last_short 0 c.args.steps.now (omega arith) c.requires.narrow_steps)

pub from_normal-requires : goal.from_normal-requires
from_normal-requires c =
    stair_curve c.args.grid c.args.steps.now c.in_ok-pieces.pieces.items c.time_of-rank.result c.last_length.result c.requires c.in_ok-pieces.ensures c.time_of-rank.ensures c.last_length.ensures
