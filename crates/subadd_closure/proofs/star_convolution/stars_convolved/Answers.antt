use Rattle.std.proofs.lemmas.Result.{err_from_is_err_and}
use Rattle.subadd_closure.proofs.star_convolution.stars_convolved.Goals as goal

pub returns-in_err-frame-clause-limits : goal.returns-in_err-frame-clause-limits
returns-in_err-frame-clause-limits c =
    let p = err_from_is_err_and c.from_residual.result c.from_residual.ensures.1 in
    rw (p.1, p.2) c.in_err-frame.ensures.limits

pub convolved_within-requires-clause-frame : goal.convolved_within-requires-clause-frame
convolved_within-requires-clause-frame c = c.in_ok-frame.ensures.frame

pub returns-in-Ok-clause-limits : goal.returns-in-Ok-clause-limits
returns-in-Ok-clause-limits c = c.in_ok-frame.ensures.limits

pub returns-in-Err-clause-limits : goal.returns-in-Err-clause-limits
returns-in-Err-clause-limits c = c.in_ok-frame.ensures.limits
