use Rattle.std.proofs.lemmas.Result.{err_from_is_err_and}
use Rattle.upp_limits.specs.declared.op_kind.OpKind.TheVariants.{RunSup}
use Rattle.curve_call.proofs.Limited.{within_at_least, refused_cause, run_sup_least}
use Rattle.plain_operators.proofs.running.supremum_curve.supremum_after.Goals as goal

pub returns-in_err-frame-clause-limits : goal.returns-in_err-frame-clause-limits
returns-in_err-frame-clause-limits c =
    let f = c.args.f.now in
    let p = err_from_is_err_and c.from_residual.result c.from_residual.ensures.1 in
    rw (p.1, p.2) (refused_cause RunSup f f c.args.k 0 _ (λ h. h) (run_sup_least f f c.args.k c.requires.number.least) c.in_err-frame.ensures.refused)

pub returns-in_err-supremum_within-clause-limits : goal.returns-in_err-supremum_within-clause-limits
returns-in_err-supremum_within-clause-limits c =
    let f = c.args.f.now in
    let r = c.in_ok-frame.ensures.frame in
    let p = err_from_is_err_and c.from_residual-in_err-supremum_within.result c.from_residual-in_err-supremum_within.ensures.1 in
    rw (p.1, p.2) (within_at_least RunSup f f c.args.k 0 (run_sup_least f f c.args.k c.requires.number.least) r.gauge r.tally)

pub returns-clause-limits : goal.returns-clause-limits
returns-clause-limits c =
    let f = c.args.f.now in
    let r = c.in_ok-frame.ensures.frame in
    within_at_least RunSup f f c.args.k 0 (run_sup_least f f c.args.k c.requires.number.least) r.gauge r.tally
