use Rattle.std.proofs.Common.{◌∙◌, sym, inl, inr}
use Rattle.std.proofs.lemmas.Result.{err_from_is_err_and}
use Rattle.outcomes.proofs.Spending.{spends_answer, spends_refusal, spends_stopped}
use Rattle.net_text.proofs.flows.flow_of.Goals as goal

pub returns-in_err-name-clause-spends : goal.returns-in_err-name-clause-spends
returns-in_err-name-clause-spends g c =
    let p = err_from_is_err_and c.from_residual.result c.from_residual.ensures.1 in
    spends_stopped c.from_residual.result p.0 p.1 (λ lack n none. inl none)

pub returns-in_err-path-clause-spends : goal.returns-in_err-path-clause-spends
returns-in_err-path-clause-spends g c =
    let p = err_from_is_err_and c.from_residual-in_err-path.result c.from_residual-in_err-path.ensures.1 in
    spends_stopped c.from_residual-in_err-path.result p.0 p.1 (λ lack n none. inl none)

pub returns-in_err-queues-clause-spends : goal.returns-in_err-queues-clause-spends
returns-in_err-queues-clause-spends g c =
    let p = err_from_is_err_and c.from_residual-in_err-queues.result c.from_residual-in_err-queues.ensures.1 in
    spends_stopped c.from_residual-in_err-queues.result p.0 p.1 (λ lack n none. inl none)

pub returns-in_err-place-clause-spends : goal.returns-in_err-place-clause-spends
returns-in_err-place-clause-spends g c =
    let p = err_from_is_err_and c.from_residual-in_err-place.result c.from_residual-in_err-place.ensures.1 in
    spends_stopped c.from_residual-in_err-place.result p.0 p.1 (λ lack n none. inl none)

pub returns-in_err-arrival-clause-spends : goal.returns-in_err-arrival-clause-spends
returns-in_err-arrival-clause-spends g c =
    let r = c.from_residual-in_err-arrival in
    let p = err_from_is_err_and r.result r.ensures.1 in
    spends_refusal c.in_err-arrival.ensures.spends r.result p.0 p.1 (λ n is. is) (λ told. sym p.2 ∙ told) (λ n ends. inr ends)

pub returns-clause-spends : goal.returns-clause-spends
returns-clause-spends g c = spends_answer c.in_ok-arrival.ensures.spends (λ n is. is)
