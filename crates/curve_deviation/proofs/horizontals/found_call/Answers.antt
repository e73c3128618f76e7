use Rattle.std.proofs.lemmas.Result.{err_from_is_err_and}
use Rattle.curve_deviation.proofs.PeriodsFound.{found_refused, found_within}
use Rattle.curve_deviation.proofs.horizontals.found_call.Goals as goal

pub returns-in-Some-clause-limits : goal.returns-in-Some-clause-limits
returns-in-Some-clause-limits c =
    found_within c.args.f.now c.args.g.now c.in-Some.call.periods c.in-Some.call.frame c.keeps.ensures c.keeps-2.ensures c.in-Some.ensures.found c.in-Some.ensures.frame

pub returns-in_err-frame-clause-limits : goal.returns-in_err-frame-clause-limits
returns-in_err-frame-clause-limits c =
    let p = err_from_is_err_and c.from_residual.result c.from_residual.ensures.1 in
    rw (p.1, p.2) (found_refused c.args.f.now c.args.g.now c.in-Some-periods_of.periods _ c.keeps.ensures c.keeps-2.ensures c.requires.known c.in-Some-periods_of.ensures c.in_err-frame.ensures.refused)

pub returns-clause-limits : goal.returns-clause-limits
returns-clause-limits c = found_within c.args.f.now c.args.g.now c.in-Some-periods_of.periods c.in_ok-frame.frame c.keeps.ensures c.keeps-2.ensures c.in-Some-periods_of.ensures c.in_ok-frame.ensures.frame
