use Rattle.std.proofs.lemmas.Result.{err_from_is_err_and}
use Rattle.curve_conv.proofs.ConvolveCalls.{wide_first, first_fits}
use Rattle.subadd_closure.proofs.star_convolution.searched_frame.Goals as goal

pub returns-in_err-first-clause-limits : goal.returns-in_err-first-clause-limits
returns-in_err-first-clause-limits c =
    let p = err_from_is_err_and c.from_residual.result c.from_residual.ensures.1 in
    rw (p.1, p.2) (wide_first c.args.f.now c.args.g.now _ c.first_window.ensures.kept c.in_err-first.ensures.refused)

pub difference-from-requires : goal.difference-from-requires
difference-from-requires c = first_fits c.args.f.now c.args.g.now c.in_ok-first.first c.first_window.ensures.kept c.in_ok-first.ensures.window
