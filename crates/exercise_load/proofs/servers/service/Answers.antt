use Rattle.exercise_load.proofs.Refused.{service_refused}
use Rattle.exercise_load.proofs.servers.service.Goals as goal

pub unreachable-requires : goal.unreachable-requires
unreachable-requires c =
    c.in_default.not-NoMemory
    (service_refused c.from.result c.from-2.result c.in-Err.fault c.from.ensures c.from-2.ensures
    c.in-Err.ensures.causes)
