use Rattle.exercise_load.proofs.Refused.{arrival_refused}
use Rattle.exercise_load.proofs.flows.arrival.Goals as goal

pub unreachable-requires : goal.unreachable-requires
unreachable-requires c =
    c.in_default.not-NoMemory
    (arrival_refused c.args.flow.now c.from.result c.zero.result c.in-Err.fault c.requires c.from.ensures
    c.zero.ensures c.in-Err.ensures.causes)
