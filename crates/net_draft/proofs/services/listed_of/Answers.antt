use Rattle.net_draft.specs.Tables.{listed_service_at}
use Rattle.net_draft.proofs.Chain.{handed_on, fails_here, fails_after, gives_after, no_value}
use Rattle.net_draft.proofs.services.listed_of.Goals as goal

pub returns-in_err-only-clause-value : goal.returns-in_err-only-clause-value
unfolding listed_service_at
returns-in_err-only-clause-value c =
    let e = c.in_err-only.field-0.0 in handed_on _ _ _ _ c.from_residual.ensures.1 (fails_here _ _ e c.in_err-only.ensures)

pub returns-in_err-only-clause-kept : goal.returns-in_err-only-clause-kept
returns-in_err-only-clause-kept c = no_value c.from_residual.result _ _ c.from_residual.ensures.1

pub returns-in_err-pieces-clause-value : goal.returns-in_err-pieces-clause-value
unfolding listed_service_at
returns-in_err-pieces-clause-value c =
    let e = c.in_err-pieces.field-0.0 in handed_on _ _ _ _ c.from_residual-in_err-pieces.ensures.1 (fails_after _ e c.in_ok-only.ensures (fails_here _ _ e c.in_err-pieces.ensures))

pub returns-in_err-pieces-clause-kept : goal.returns-in_err-pieces-clause-kept
returns-in_err-pieces-clause-kept c = no_value c.from_residual-in_err-pieces.result _ _ c.from_residual-in_err-pieces.ensures.1

pub returns-in_err-tail-clause-value : goal.returns-in_err-tail-clause-value
unfolding listed_service_at
returns-in_err-tail-clause-value c =
    let e = c.in_err-tail.field-0.0 in handed_on _ _ _ _ c.from_residual-in_err-tail.ensures.1 (fails_after _ e c.in_ok-only.ensures (fails_after _ e c.in_ok-pieces.ensures (fails_here _ _ e c.in_err-tail.ensures)))

pub returns-in_err-tail-clause-kept : goal.returns-in_err-tail-clause-kept
returns-in_err-tail-clause-kept c = no_value c.from_residual-in_err-tail.result _ _ c.from_residual-in_err-tail.ensures.1

pub returns-clause-value : goal.returns-clause-value
unfolding listed_service_at
returns-clause-value c =
    gives_after _ _ _ c.in_ok-only.ensures (gives_after _ _ _ c.in_ok-pieces.ensures (gives_after _ _ _ c.in_ok-tail.ensures c.curve_of.ensures.value))
