use Rattle.std.proofs.lemmas.Result.{err_from_is_err_and}
use Rattle.plain_operators.proofs.pointwise.lattice.made_of_both.Goals as goal

pub returns-in_err-frame-clause-limits : goal.returns-in_err-frame-clause-limits
returns-in_err-frame-clause-limits c =
    let p = err_from_is_err_and c.from_residual.result c.from_residual.ensures.1 in
    rw (p.1, p.2) c.in_err-frame.ensures.refused

pub made_within-requires-clause-call : goal.made_within-requires-clause-call
made_within-requires-clause-call c = c.in_ok-frame.ensures.frame

pub returns-clause-limits : goal.returns-clause-limits
returns-clause-limits c = c.in_ok-frame.ensures.within

pub returns-in_err-made_within-clause-limits : goal.returns-in_err-made_within-clause-limits
returns-in_err-made_within-clause-limits c =
    let p = err_from_is_err_and c.from_residual-in_err-made_within.result c.from_residual-in_err-made_within.ensures.1 in
    rw (p.1, p.2) c.in_ok-frame.ensures.within
