use Rattle.std.proofs.Common.{refl}
use Rattle.std.proofs.lemmas.Result.{err_from_is_err_and}
use Rattle.outcomes.proofs.Spending.{spends_stopped}
use Rattle.subadd_closure.proofs.FoldMemory.{none_wants}
use Rattle.subadd_closure.proofs.ClosedValues.{closed_value, closed_keeps}
use Rattle.subadd_closure.proofs.FirstElements.{no_memory}
use Rattle.subadd_closure.proofs.closing.close.Goals as goal

pub returns-in_err-es-clause-answer : goal.returns-in_err-es-clause-answer
returns-in_err-es-clause-answer g c =
    let p = err_from_is_err_and c.from_residual.result c.from_residual.ensures.1 in
    no_memory c.args.f.now c.from_residual.result c.keeps.ensures.normal.raw c.requires.finite (rw (
      p.1,
      p.2,
    ) refl)

pub returns-clause-value : goal.returns-clause-value
returns-clause-value g c =
    closed_value c.args.f.now c.keeps.ensures.normal c.requires.finite c.requires.nonneg c.closed.result
    c.closed.ensures.answer

pub returns-clause-keeps : goal.returns-clause-keeps
returns-clause-keeps g c =
    closed_keeps c.args.f.now c.keeps.ensures.normal c.requires.finite c.requires.nonneg c.closed.result
    c.closed.ensures.answer

pub returns-in_err-es-clause-spends : goal.returns-in_err-es-clause-spends
returns-in_err-es-clause-spends g c =
    let p = err_from_is_err_and c.from_residual.result c.from_residual.ensures.1 in
    spends_stopped c.from_residual.result p.0 p.1
    (λ lack n none. none_wants c.args.f.now n none c.keeps.ensures.normal.raw c.requires.finite)
