use Rattle.subadd_closure.proofs.UsefulPairs.{through}
use Rattle.subadd_closure.proofs.useful.line_from.Goals as goal

pub returns-in-Ok-sub-clause-value : goal.returns-in-Ok-sub-clause-value
returns-in-Ok-sub-clause-value c =
    through c.args.v c.in-Ok.risen c.in-Ok-sub.icept c.args.m c.args.x c.in-Ok.ensures.value c.in-Ok-sub.ensures.value
