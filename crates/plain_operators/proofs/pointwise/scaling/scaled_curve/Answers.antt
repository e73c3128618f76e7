use Rattle.std.proofs.lemmas.Result.{err_from_is_err_and}
use Rattle.upp_limits.specs.declared.op_kind.OpKind.TheVariants.{Scale}
use Rattle.curve_call.proofs.Limited.{refused_cause, scale_least, frame_within}
use Rattle.plain_operators.proofs.pointwise.scaling.scaled_curve.Goals as goal

pub returns-in_err-frame-clause-limits : goal.returns-in_err-frame-clause-limits
returns-in_err-frame-clause-limits c =
    let f = c.args.f.now in
    let p = err_from_is_err_and c.from_residual.result c.from_residual.ensures.1 in
    rw (p.1, p.2) (refused_cause (Scale c.args.factor) f f 0 0 _ (λ h. h) (scale_least c.args.factor f f) c.in_err-frame.ensures.refused)

pub returns-clause-limits : goal.returns-clause-limits
returns-clause-limits c =
    frame_within (Scale c.args.factor) c.args.f.now c.args.f.now 0 0 c.in_ok-frame.frame (scale_least c.args.factor c.args.f.now c.args.f.now) c.in_ok-frame.ensures.frame

pub returns-in_err-scale_within-clause-limits : goal.returns-in_err-scale_within-clause-limits
returns-in_err-scale_within-clause-limits c =
    let p = err_from_is_err_and c.from_residual-in_err-scale_within.result c.from_residual-in_err-scale_within.ensures.1 in
    rw (p.1, p.2) (frame_within (Scale c.args.factor) c.args.f.now c.args.f.now 0 0 c.in_ok-frame.frame (scale_least c.args.factor c.args.f.now c.args.f.now) c.in_ok-frame.ensures.frame)
