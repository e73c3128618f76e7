use Rattle.std.proofs.lemmas.Result.{err_from_is_err_and}
use Rattle.rational.specs.declared.Extended.TheVariants.{Fin}
use Rattle.upp_limits.specs.declared.op_kind.OpKind.TheVariants.{Shift}
use Rattle.curve_call.proofs.Limited.{shift_least, frame_within}
use Rattle.plain_operators.proofs.pointwise.shifts.shift_by.Goals as goal

pub returns-clause-limits : goal.returns-clause-limits
returns-clause-limits c =
    frame_within (Shift (Fin c.args.x)) c.args.f.now c.args.f.now 0 0 c.in_ok-frame.frame (shift_least (Fin c.args.x) c.args.f.now c.args.f.now) c.in_ok-frame.ensures.frame

pub returns-in_err-shift_within-clause-limits : goal.returns-in_err-shift_within-clause-limits
returns-in_err-shift_within-clause-limits c =
    let p = err_from_is_err_and c.from_residual-in_err-shift_within.result c.from_residual-in_err-shift_within.ensures.1 in
    rw (p.1, p.2) (frame_within (Shift (Fin c.args.x)) c.args.f.now c.args.f.now 0 0 c.in_ok-frame.frame (shift_least (Fin c.args.x) c.args.f.now c.args.f.now) c.in_ok-frame.ensures.frame)
