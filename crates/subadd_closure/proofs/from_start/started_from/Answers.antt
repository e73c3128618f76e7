use Rattle.std.proofs.Common.{refl, ◌∙◌}
use Rattle.std.proofs.lemmas.Result.{err_from_is_err_and}
use Rattle.upp_limits.specs.declared.op_kind.OpKind.TheVariants.{Convolve}
use Rattle.outcomes.specs.Calls.{goes_on, stops}
use Rattle.curve_call.proofs.Applied.{applied_seen}
use Rattle.subadd_closure.proofs.Made.{starts_at}
use Rattle.subadd_closure.proofs.from_start.started_from.Goals as goal
use Rattle.subadd_closure.proofs.from_start.started_from.Goals.{in-Ok, in-Err}

pub returns-in_err-whole-clause-answer : goal.returns-in_err-whole-clause-answer
returns-in_err-whole-clause-answer g c =
    let p = err_from_is_err_and c.from_residual.result c.from_residual.ensures.1 in
    let whole = applied_seen Convolve c.args.sofar.now c.args.star.now c.convolve_stars.result c.intact.result
    c.intact.ensures.same
    c.convolve_stars.ensures.value c.convolve_stars.ensures.limits c.intact.ensures.kept in
    rw (p.1, p.2) (stops c.in_err-whole.field-0.0 (rw c.in_err-whole.was at whole) refl)

pub returns-then-begins_at-clause-answer : goal.returns-then-begins_at-clause-answer
returns-then-begins_at-clause-answer g c =
    let whole = applied_seen Convolve c.args.sofar.now c.args.star.now c.convolve_stars.result c.intact.result
    c.intact.ensures.same
    c.convolve_stars.ensures.value c.convolve_stars.ensures.limits c.intact.ensures.kept in
    let A = rw c.in_ok-whole.was at whole in
    goes_on c.in_ok-whole.whole A (A.made.curve, c.if-begins_at.ensures refl, λ t h. refl)

pub returns-in_err-frame-clause-answer : goal.returns-in_err-frame-clause-answer
returns-in_err-frame-clause-answer g c =
    let p = err_from_is_err_and c.from_residual-in_err-frame.result c.from_residual-in_err-frame.ensures.1 in
    rw (p.1, p.2) (stops c.in_err-frame.field-0.0 c.in_err-frame.ensures.limits refl)

pub returns-clause-answer : goal.returns-clause-answer
returns-clause-answer g c =
    let whole = applied_seen Convolve c.args.sofar.now c.args.star.now c.convolve_stars.result c.intact.result
    c.intact.ensures.same
    c.convolve_stars.ensures.value c.convolve_stars.ensures.limits c.intact.ensures.kept in
    let A = rw c.in_ok-whole.was at whole in
    elim c.match-started_within.branch [
      | in-Ok w ↦
          let e = c.intact-2.ensures.same ∙ w.started-is in
          rw e (goes_on c.in_ok-whole.whole A
          (starts_at c.args.sofar.now c.args.star.now c.in_ok-whole.whole w.in-Ok.c c.args.start A
          (rw e at c.intact-2.ensures.kept)
          w.in-Ok.ensures))
      | in-Err w ↦
          let e = c.intact-2.ensures.same ∙ w.started-is in
          rw e (goes_on c.in_ok-whole.whole A refl)
    ]
