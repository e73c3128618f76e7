use Rattle.net_draft.specs.Tables.{gate_at}
use Rattle.net_draft.proofs.Chain.{handed_on, fails_here, fails_after, gives_after, no_value}
use Rattle.net_draft.proofs.services.gate_of.Goals as goal

pub returns-in_err-only-clause-value : goal.returns-in_err-only-clause-value
unfolding gate_at
returns-in_err-only-clause-value c =
    let e = c.in_err-only.field-0.0 in
    handed_on _ _ _ _ c.from_residual.ensures.1 (fails_here _ _ e c.in_err-only.ensures)

pub returns-in_err-only-clause-kept : goal.returns-in_err-only-clause-kept
returns-in_err-only-clause-kept c = no_value c.from_residual.result _ _ c.from_residual.ensures.1

pub returns-in_err-cycle-clause-value : goal.returns-in_err-cycle-clause-value
unfolding gate_at
returns-in_err-cycle-clause-value c =
    let e = c.in_err-cycle.field-0.0 in
    handed_on _ _ _ _ c.from_residual-in_err-cycle.ensures.1 (fails_after _ e c.in_ok-only.ensures (fails_here _ _ e c.in_err-cycle.ensures))

pub returns-in_err-cycle-clause-kept : goal.returns-in_err-cycle-clause-kept
returns-in_err-cycle-clause-kept c = no_value c.from_residual-in_err-cycle.result _ _ c.from_residual-in_err-cycle.ensures.1

pub returns-in_err-slot-clause-value : goal.returns-in_err-slot-clause-value
unfolding gate_at
returns-in_err-slot-clause-value c =
    let e = c.in_err-slot.field-0.0 in
    handed_on _ _ _ _ c.from_residual-in_err-slot.ensures.1 (fails_after _ e c.in_ok-only.ensures (fails_after _ e c.in_ok-cycle.ensures (fails_here _ _ e c.in_err-slot.ensures)))

pub returns-in_err-slot-clause-kept : goal.returns-in_err-slot-clause-kept
returns-in_err-slot-clause-kept c = no_value c.from_residual-in_err-slot.result _ _ c.from_residual-in_err-slot.ensures.1

pub returns-clause-value : goal.returns-clause-value
unfolding gate_at
returns-clause-value c =
    gives_after _ _ _ c.in_ok-only.ensures (gives_after _ _ _ c.in_ok-cycle.ensures (gives_after _ _ _ c.in_ok-slot.ensures c.curve_of.ensures.value))
