use Rattle.std.proofs.lemmas.Result.{err_from_is_err_and, IfErr-weaker}
use Rattle.upp_curve.specs.Curve.{value_at}
use Rattle.upp_normal.proofs.NormaliseForm.{ok_map}
use Rattle.plain_operators.proofs.running.LeftLimits.{left_wide, left_refused, left_is_within, left_frame}
use Rattle.plain_operators.proofs.running.Served.{theta_nonneg}
use Rattle.plain_operators.proofs.running.leftover.least_frame.Goals as goal

pub first_look-requires : goal.first_look-requires
first_look-requires c = theta_nonneg (value_at c.args.beta.now) (value_at c.args.cross.now) c.args.theta c.requires

pub returns-in_err-look-clause-refused : goal.returns-in_err-look-clause-refused
returns-in_err-look-clause-refused c =
    let p = err_from_is_err_and c.from_residual.result c.from_residual.ensures.1 in
    rw (p.1, p.2) (left_wide c.args.theta c.args.beta.now c.args.cross.now _ c.requires c.first_look.ensures.kept c.in_err-look.ensures.refused)

pub refuse_behind-requires : goal.refuse_behind-requires
refuse_behind-requires c =
    record { curve = c.first_look.ensures.kept.0; other = c.first_look.ensures.kept.1; served = c.requires; first = c.in_ok-look.ensures.look.window }

pub returns-in_err-refuse_behind-clause-refused : goal.returns-in_err-refuse_behind-clause-refused
returns-in_err-refuse_behind-clause-refused c =
    let p = err_from_is_err_and c.from_residual-in_err-refuse_behind.result c.from_residual-in_err-refuse_behind.ensures.1 in
    rw (p.1, p.2) c.in_err-refuse_behind.ensures

pub enough_periods-periods-requires : goal.enough_periods-periods-requires
enough_periods-periods-requires c =
    record { curve = c.first_look.ensures.kept.0; other = c.first_look.ensures.kept.1; served = c.requires; first = c.in_ok-look.ensures.look.window }

pub within_after-requires-clause-forward : goal.within_after-requires-clause-forward
within_after-requires-clause-forward c = theta_nonneg (value_at c.args.beta.now) (value_at c.args.cross.now) c.args.theta c.requires

pub within_after-requires-clause-look : goal.within_after-requires-clause-look
within_after-requires-clause-look c = c.in_ok-look.ensures.look.frame

pub returns-clause-frame : goal.returns-clause-frame
returns-clause-frame c =
    ok_map c.within_after.result _ _
    (λ r h. left_frame c.args.theta c.args.beta.now c.args.cross.now c.enough_periods-periods.result r c.requires c.enough_periods-periods.ensures h) c.within_after.ensures.frame

pub returns-clause-within : goal.returns-clause-within
returns-clause-within c =
    ok_map c.within_after.result _ _ (λ r h. left_is_within c.args.theta c.args.beta.now c.args.cross.now c.enough_periods-periods.result r c.enough_periods-periods.ensures h)
    c.within_after.ensures.frame

pub returns-clause-refused : goal.returns-clause-refused
returns-clause-refused c =
    IfErr-weaker c.within_after.result _ _
    (λ e h. left_refused c.args.theta c.args.beta.now c.args.cross.now c.enough_periods-periods.result e c.enough_periods-periods.ensures h) c.within_after.ensures.refused
