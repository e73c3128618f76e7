use Rattle.std.proofs.lemmas.Result.{err_from_is_err_and}
use Rattle.upp_limits.specs.declared.op_kind.OpKind.TheVariants.{Sum}
use Rattle.curve_call.proofs.Limited.{sum_least, frame_within}
use Rattle.plain_operators.proofs.pointwise.sums.sum_by_window.Goals as goal

pub returns-clause-limits : goal.returns-clause-limits
returns-clause-limits c =
    frame_within Sum c.args.f.now c.args.g.now 0 0 c.in_ok-frame.frame (sum_least c.args.f.now c.args.g.now) c.in_ok-frame.ensures.frame

pub returns-in_err-sum_within-clause-limits : goal.returns-in_err-sum_within-clause-limits
returns-in_err-sum_within-clause-limits c =
    let p = err_from_is_err_and c.from_residual-in_err-sum_within.result c.from_residual-in_err-sum_within.ensures.1 in
    rw (p.1, p.2) (frame_within Sum c.args.f.now c.args.g.now 0 0 c.in_ok-frame.frame (sum_least c.args.f.now c.args.g.now) c.in_ok-frame.ensures.frame)
