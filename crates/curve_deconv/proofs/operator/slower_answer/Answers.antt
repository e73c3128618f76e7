use Rattle.std.proofs.lemmas.Result.{err_from_is_err_and}
use Rattle.upp_limits.specs.declared.op_kind.OpKind.TheVariants.{Deconvolve}
use Rattle.curve_call.proofs.Limited.{deconvolve_least, frame_within, refused_cause}
use Rattle.curve_deconv.proofs.operator.slower_answer.Goals as goal

pub returns-in_err-frame-clause-limits : goal.returns-in_err-frame-clause-limits
returns-in_err-frame-clause-limits c =
    let p = err_from_is_err_and c.from_residual.result c.from_residual.ensures.1 in
    rw (p.1, p.2) (refused_cause Deconvolve c.args.f.now c.args.g.now 0 0 _ c.requires.slow (deconvolve_least c.args.f.now c.args.g.now) c.in_err-frame.ensures.refused)

pub returns-clause-limits : goal.returns-clause-limits
returns-clause-limits c = frame_within Deconvolve c.args.f.now c.args.g.now 0 0 c.in_ok-frame.frame (deconvolve_least c.args.f.now c.args.g.now) c.in_ok-frame.ensures.frame

pub returns-in_err-deconvolved_within-clause-limits : goal.returns-in_err-deconvolved_within-clause-limits
returns-in_err-deconvolved_within-clause-limits c =
    let p = err_from_is_err_and c.from_residual-in_err-deconvolved_within.result c.from_residual-in_err-deconvolved_within.ensures.1 in
    rw (p.1, p.2) (frame_within Deconvolve c.args.f.now c.args.g.now 0 0 c.in_ok-frame.frame (deconvolve_least c.args.f.now c.args.g.now) c.in_ok-frame.ensures.frame)
