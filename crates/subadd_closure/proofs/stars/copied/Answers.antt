use Rattle.std.proofs.Common.{◌≡◌, ◌+◌, arith, subst}
use Rattle.std.proofs.lemmas.Result.{err_from_is_err_and}
use Rattle.upp_limits.specs.declared.op_kind.OpKind.TheVariants.{Convolve}
use Rattle.upp_limits.specs.Outcome.{KeepsLimits}
use Rattle.outcomes.proofs.Spending.{counts_all, spends_stopped, spends_so}
use Rattle.subadd_closure.specs.Lattices.{lattice_curve}
use Rattle.subadd_closure.proofs.FoldMemory.{call_wants}
use Rattle.subadd_closure.proofs.FoldThins.{copies_thinnable}
use Rattle.subadd_closure.proofs.stars.copied.Goals as goal

pub convolve_stars-requires : goal.convolve_stars-requires
convolve_stars-requires g c =
    copies_thinnable c.args.c.now c.in_ok-points.points c.args.turn.0 c.args.turn.1 c.requires.subadditive
    c.requires.turn.0 c.in_ok-points.ensures

pub returns-in_err-points-clause-spends : goal.returns-in_err-points-clause-spends
returns-in_err-points-clause-spends g c =
    let p = err_from_is_err_and c.from_residual.result c.from_residual.ensures.1 in
    spends_stopped c.from_residual.result p.0 p.1 (λ lack n none one. absurd (omega (arith, none, one)))

pub returns-clause-spends : goal.returns-clause-spends
returns-clause-spends g c =
    let call = c.convolve_stars in
    let one : call.new.steps ≡ c.args.steps.now + 1 = call.ensures.count in
    spends_so 1 c.args.steps.now call.new.steps c.intact.result (counts_all 1 c.args.steps.now call.new.steps c.intact.result one)
    (λ is counted. call_wants Convolve c.args.c.now (lattice_curve c.args.turn.0 c.args.turn.1) call.result c.intact.result c.intact.ensures.same
    (subst (λ z. KeepsLimits Convolve c.args.c.now z call.result) c.in_ok-points.ensures call.ensures.limits) is)
