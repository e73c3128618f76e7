use Rattle.std.proofs.Common.{◌≡◌, ◌+◌, arith, subst}
use Rattle.std.proofs.lemmas.Result.{err_from_is_err_and}
use Rattle.upp_limits.specs.declared.op_kind.OpKind.TheVariants.{Min}
use Rattle.upp_limits.specs.Outcome.{KeepsLimits}
use Rattle.outcomes.proofs.Spending.{counts_all, spends_stopped, spends_so}
use Rattle.subadd_closure.specs.Lattices.{origin_curve}
use Rattle.subadd_closure.proofs.FoldMemory.{call_wants}
use Rattle.subadd_closure.proofs.stars.lowered.Goals as goal

pub returns-in_err-zero-clause-spends : goal.returns-in_err-zero-clause-spends
returns-in_err-zero-clause-spends g c =
    let p = err_from_is_err_and c.from_residual.result c.from_residual.ensures.1 in
    spends_stopped c.from_residual.result p.0 p.1 (λ lack n none one. absurd (omega (arith, none, one)))

pub returns-clause-spends : goal.returns-clause-spends
returns-clause-spends g c =
    let one : c.min.new.steps ≡ c.args.steps.now + 1 = c.min.ensures.count in
    spends_so 1 c.args.steps.now c.min.new.steps c.intact.result (counts_all 1 c.args.steps.now c.min.new.steps c.intact.result one)
    (λ is counted. call_wants Min c.args.c.now origin_curve c.min.result c.intact.result c.intact.ensures.same
    (subst (λ z. KeepsLimits Min c.args.c.now z c.min.result) c.in_ok-zero.ensures c.min.ensures.limits) is)
