use Rattle.std.proofs.Common.{◌≡◌, ◌+◌, ◌∙◌, Err, arith, refl, sym, ap}
use Rattle.std.proofs.lemmas.Result.{err_from_is_err_and}
use Rattle.upp_limits.specs.declared.op_kind.OpKind.TheVariants.{Min, Convolve}
use Rattle.upp_curve.specs.Curve.{value_at}
use Rattle.outcomes.specs.Calls.{goes_on, stops}
use Rattle.curve_call.proofs.Applied.{applied_seen}
use Rattle.outcomes.proofs.Spending.{spends_made, spends_fault}
use Rattle.subadd_closure.proofs.FoldMemory.{call_wants}
use Rattle.subadd_closure.proofs.SameConvolution.{subadditive_where_same, same_where_subadditive}
use Rattle.subadd_closure.proofs.subadditive.is_subadditive.Goals as goal

pub returns-in_err-twice-clause-limits : goal.returns-in_err-twice-clause-limits
returns-in_err-twice-clause-limits g c =
    let p = err_from_is_err_and c.from_residual.result c.from_residual.ensures.1 in
    let first = applied_seen Convolve c.args.f.now c.args.f.now c.convolve.result c.intact.result c.intact.ensures.same
    c.convolve.ensures.value c.convolve.ensures.limits c.intact.ensures.kept in
    rw (p.1, p.2) (stops c.in_err-twice.field-0.0 (rw c.in_err-twice.was at first) refl)

pub returns-in_err-lower-clause-limits : goal.returns-in_err-lower-clause-limits
returns-in_err-lower-clause-limits g c =
    let p = err_from_is_err_and c.from_residual-in_err-lower.result c.from_residual-in_err-lower.ensures.1 in
    let first = applied_seen Convolve c.args.f.now c.args.f.now c.convolve.result c.intact.result c.intact.ensures.same
    c.convolve.ensures.value c.convolve.ensures.limits c.intact.ensures.kept in
    rw (p.1, p.2) (goes_on c.in_ok-twice.twice (rw c.in_ok-twice.was at first) c.in_err-lower.ensures.limits)

pub returns-clause-value : goal.returns-clause-value
returns-clause-value g c =
    let first = applied_seen Convolve c.args.f.now c.args.f.now c.convolve.result c.intact.result c.intact.ensures.same
    c.convolve.ensures.value c.convolve.ensures.limits c.intact.ensures.kept in
    let made = (rw c.in_ok-twice.was at first).made in
    let f = value_at c.args.f.now in
    let twice = value_at c.in_ok-twice.twice in
    let lower = value_at c.in_ok-lower.lower in (
      λ b. subadditive_where_same f twice lower made.answers c.in_ok-lower.ensures.value (c.equal.ensures.0 b),
      λ s. c.equal.ensures.1 (same_where_subadditive f twice lower made.answers c.in_ok-lower.ensures.value s),
    )

pub returns-clause-limits : goal.returns-clause-limits
returns-clause-limits g c =
    let first = applied_seen Convolve c.args.f.now c.args.f.now c.convolve.result c.intact.result c.intact.ensures.same
    c.convolve.ensures.value c.convolve.ensures.limits c.intact.ensures.kept in
    goes_on c.in_ok-twice.twice (rw c.in_ok-twice.was at first) c.in_ok-lower.ensures.limits

-- ---- what is counted, and want of memory
pub returns-in_err-twice-clause-spends : goal.returns-in_err-twice-clause-spends
returns-in_err-twice-clause-spends g c =
    let p = err_from_is_err_and c.from_residual.result c.from_residual.ensures.1 in
    let one : c.convolve.new.steps ≡ c.args.steps.now + 1 = c.convolve.ensures.count in
    spends_fault 2 c.args.steps.now c.convolve.new.steps c.from_residual.result p.0 p.1 (omega (arith, one)) (omega (arith, one))
    (λ told both. absurd (omega (arith, one, both)))

pub returns-in_err-lower-clause-spends : goal.returns-in_err-lower-clause-spends
returns-in_err-lower-clause-spends g c =
    let r = c.from_residual-in_err-lower in
    let p = err_from_is_err_and r.result r.ensures.1 in
    let first = applied_seen Convolve c.args.f.now c.args.f.now c.convolve.result c.intact.result c.intact.ensures.same
    c.convolve.ensures.value c.convolve.ensures.limits c.intact.ensures.kept in
    let one : c.convolve.new.steps ≡ c.args.steps.now + 1 = c.convolve.ensures.count in
    let two : c.min.new.steps ≡ c.convolve.new.steps + 1 = c.in_err-lower.ensures.count in
    spends_fault 2 c.args.steps.now c.min.new.steps r.result p.0 p.1 (omega (arith, one, two)) (omega (arith, one, two))
    (λ told both. (
      c.in_ok-twice.twice,
      rw c.in_ok-twice.was at first,
      call_wants Min c.args.f.now c.in_ok-twice.twice (Err c.in_err-lower.field-0.0) (Err c.in_err-lower.field-0.0) refl
          c.in_err-lower.ensures.limits (ap Err (sym p.2 ∙ told)),
    ))

pub returns-clause-spends : goal.returns-clause-spends
returns-clause-spends g c =
    let one : c.convolve.new.steps ≡ c.args.steps.now + 1 = c.convolve.ensures.count in
    let two : c.min.new.steps ≡ c.convolve.new.steps + 1 = c.in_ok-lower.ensures.count in
    spends_made 2 (omega (arith, one, two))
