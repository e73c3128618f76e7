use Rattle.std.proofs.lemmas.Result.{err_from_is_err_and}
use Rattle.plain_operators.proofs.pointwise.lattice.refuse_over.Goals as goal

pub returns-in_err-refuse_early : goal.returns-in_err-refuse_early
returns-in_err-refuse_early c =
    let p = err_from_is_err_and c.from_residual.result c.from_residual.ensures.1 in
    rw (p.1, p.2) c.in_err-refuse_early.ensures

pub returns : goal.returns
returns c = c.refuse_by_lines.ensures
