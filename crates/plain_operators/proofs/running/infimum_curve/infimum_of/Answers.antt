use Rattle.std.proofs.lemmas.Result.{err_from_is_err_and}
use Rattle.upp_limits.specs.declared.op_kind.OpKind.TheVariants.{RunInf}
use Rattle.curve_call.proofs.Limited.{within_at_least, refused_cause, run_inf_least}
use Rattle.plain_operators.proofs.running.FiniteRuns.{infimum_finite}
use Rattle.plain_operators.proofs.running.infimum_curve.infimum_of.Goals as goal

pub returns-in_err-frame-clause-limits : goal.returns-in_err-frame-clause-limits
returns-in_err-frame-clause-limits c =
    let f = c.args.f.now in
    let p = err_from_is_err_and c.from_residual.result c.from_residual.ensures.1 in
    rw (p.1, p.2) (refused_cause RunInf f f 0 0 _ (λ h. h) (run_inf_least f f) c.in_err-frame.ensures.refused)

pub returns-in_err-infimum_within-clause-limits : goal.returns-in_err-infimum_within-clause-limits
returns-in_err-infimum_within-clause-limits c =
    let f = c.args.f.now in
    let r = c.in_ok-frame.ensures.frame in
    let p = err_from_is_err_and c.from_residual-in_err-infimum_within.result c.from_residual-in_err-infimum_within.ensures.1 in
    rw (p.1, p.2) (within_at_least RunInf f f 0 0 (run_inf_least f f) r.gauge r.tally)

pub returns-clause-limits : goal.returns-clause-limits
returns-clause-limits c =
    let f = c.args.f.now in
    let r = c.in_ok-frame.ensures.frame in
    within_at_least RunInf f f 0 0 (run_inf_least f f) r.gauge r.tally

pub returns-clause-finite : goal.returns-clause-finite
returns-clause-finite c = infimum_finite c.args.f.now _ c.requires.finite c.in_ok-infimum_within.ensures
