use Rattle.net_draft.specs.Tables.{arrival_at}
use Rattle.net_draft.proofs.Chain.{handed_on, fails_here, fails_after, gives_after, no_value}
use Rattle.net_draft.proofs.arrivals.arrival_at.Goals as goal

pub returns-in_err-table-clause-value : goal.returns-in_err-table-clause-value
unfolding arrival_at
returns-in_err-table-clause-value c =
    let e = c.in_err-table.field-0.0 in
    handed_on _ _ _ _ c.from_residual.ensures.1 (fails_here _ _ e c.in_err-table.ensures)

pub returns-in_err-table-clause-kept : goal.returns-in_err-table-clause-kept
returns-in_err-table-clause-kept c = no_value c.from_residual.result _ _ c.from_residual.ensures.1

pub returns-in_err-arrival_kind-clause-value : goal.returns-in_err-arrival_kind-clause-value
unfolding arrival_at
returns-in_err-arrival_kind-clause-value c =
    let e = c.in_err-arrival_kind.field-0.0 in
    handed_on _ _ _ _ c.from_residual-in_err-arrival_kind.ensures.1 (fails_after _ e c.in_ok-table.ensures (fails_here _ _ e c.in_err-arrival_kind.ensures))

pub returns-in_err-arrival_kind-clause-kept : goal.returns-in_err-arrival_kind-clause-kept
returns-in_err-arrival_kind-clause-kept c = no_value c.from_residual-in_err-arrival_kind.result _ _ c.from_residual-in_err-arrival_kind.ensures.1

pub returns-in-Bucket-clause-value : goal.returns-in-Bucket-clause-value
unfolding arrival_at
returns-in-Bucket-clause-value c =
    gives_after _ _ _ c.in_ok-table.ensures (gives_after _ _ _ (rw c.in-Bucket.is at c.in_ok-arrival_kind.ensures) c.bucket_of.ensures.value)

pub returns-in-Stair-clause-value : goal.returns-in-Stair-clause-value
unfolding arrival_at
returns-in-Stair-clause-value c =
    gives_after _ _ _ c.in_ok-table.ensures (gives_after _ _ _ (rw c.in-Stair.is at c.in_ok-arrival_kind.ensures) c.stair_of.ensures.value)

pub returns-in-List-clause-value : goal.returns-in-List-clause-value
unfolding arrival_at
returns-in-List-clause-value c =
    gives_after _ _ _ c.in_ok-table.ensures (gives_after _ _ _ (rw c.in-List.is at c.in_ok-arrival_kind.ensures) c.listed_of.ensures.value)
