use Rattle.std.proofs.lemmas.Result.{err_from_is_err_and}
use Rattle.plain_operators.proofs.running.leftover.left_after.Goals as goal

pub returns-in_err-frame-clause-limits : goal.returns-in_err-frame-clause-limits
returns-in_err-frame-clause-limits c =
    let p = err_from_is_err_and c.from_residual.result c.from_residual.ensures.1 in
    rw (p.1, p.2) c.in_err-frame.ensures.refused

pub left_within-requires-clause-call : goal.left_within-requires-clause-call
left_within-requires-clause-call c = c.in_ok-frame.ensures.frame

pub left_within-requires-clause-served : goal.left_within-requires-clause-served
left_within-requires-clause-served c = c.requires

pub returns-in-Ok-clause-limits : goal.returns-in-Ok-clause-limits
returns-in-Ok-clause-limits c = c.in_ok-frame.ensures.within

pub returns-in-Err-clause-limits : goal.returns-in-Err-clause-limits
returns-in-Err-clause-limits c = c.in_ok-frame.ensures.within
