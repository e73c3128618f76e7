use Rattle.net_draft.specs.Tables.{service_at}
use Rattle.net_draft.proofs.Chain.{handed_on, fails_here, fails_after, gives_after, no_value}
use Rattle.net_draft.proofs.services.service_at.Goals as goal

pub returns-in_err-table-clause-value : goal.returns-in_err-table-clause-value
unfolding service_at
returns-in_err-table-clause-value c =
    let e = c.in_err-table.field-0.0 in
    handed_on _ _ _ _ c.from_residual.ensures.1 (fails_here _ _ e c.in_err-table.ensures)

pub returns-in_err-table-clause-kept : goal.returns-in_err-table-clause-kept
returns-in_err-table-clause-kept c = no_value c.from_residual.result _ _ c.from_residual.ensures.1

pub returns-in_err-service_kind-clause-value : goal.returns-in_err-service_kind-clause-value
unfolding service_at
returns-in_err-service_kind-clause-value c =
    let e = c.in_err-service_kind.field-0.0 in
    handed_on _ _ _ _ c.from_residual-in_err-service_kind.ensures.1 (fails_after _ e c.in_ok-table.ensures (fails_here _ _ e c.in_err-service_kind.ensures))

pub returns-in_err-service_kind-clause-kept : goal.returns-in_err-service_kind-clause-kept
returns-in_err-service_kind-clause-kept c = no_value c.from_residual-in_err-service_kind.result _ _ c.from_residual-in_err-service_kind.ensures.1

pub returns-in-Latency-clause-value : goal.returns-in-Latency-clause-value
unfolding service_at
returns-in-Latency-clause-value c =
    gives_after _ _ _ c.in_ok-table.ensures (gives_after _ _ _ (rw c.in-Latency.is at c.in_ok-service_kind.ensures) c.latency_of.ensures.value)

pub returns-in-Gate-clause-value : goal.returns-in-Gate-clause-value
unfolding service_at
returns-in-Gate-clause-value c =
    gives_after _ _ _ c.in_ok-table.ensures (gives_after _ _ _ (rw c.in-Gate.is at c.in_ok-service_kind.ensures) c.gate_of.ensures.value)

pub returns-in-List-clause-value : goal.returns-in-List-clause-value
unfolding service_at
returns-in-List-clause-value c =
    gives_after _ _ _ c.in_ok-table.ensures (gives_after _ _ _ (rw c.in-List.is at c.in_ok-service_kind.ensures) c.listed_of.ensures.value)
