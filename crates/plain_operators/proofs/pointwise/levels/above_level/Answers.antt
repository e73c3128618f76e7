use Rattle.std.proofs.lemmas.Result.{err_from_is_err_and}
use Rattle.plain_operators.proofs.pointwise.levels.above_level.Goals as goal

pub returns-in_err-frame-clause-limits : goal.returns-in_err-frame-clause-limits
returns-in_err-frame-clause-limits c =
    let p = err_from_is_err_and c.from_residual.result c.from_residual.ensures.1 in
    rw (p.1, p.2) c.in_err-frame.ensures.refused

pub minus_within-requires-clause-call : goal.minus_within-requires-clause-call
minus_within-requires-clause-call c = c.in_ok-frame.ensures.frame

pub returns-clause-limits : goal.returns-clause-limits
returns-clause-limits c = c.in_ok-frame.ensures.within

pub returns-in_err-minus_within-clause-limits : goal.returns-in_err-minus_within-clause-limits
returns-in_err-minus_within-clause-limits c =
    let p = err_from_is_err_and c.from_residual-in_err-minus_within.result c.from_residual-in_err-minus_within.ensures.1 in
    rw (p.1, p.2) c.in_ok-frame.ensures.within
