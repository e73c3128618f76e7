use Rattle.std.proofs.Common.{refl}
use Rattle.net_draft.specs.Tables.{bucket_at}
use Rattle.net_draft.proofs.Chain.{handed_on, fails_here, fails_after, read_on, no_value}
use Rattle.net_draft.proofs.arrivals.bucket_of.Goals as goal

pub returns-in_err-only-clause-value : goal.returns-in_err-only-clause-value
unfolding bucket_at
returns-in_err-only-clause-value c =
    let e = c.in_err-only.field-0.0 in
    handed_on _ _ _ _ c.from_residual.ensures.1 (fails_here _ _ e c.in_err-only.ensures)

pub returns-in_err-only-clause-kept : goal.returns-in_err-only-clause-kept
returns-in_err-only-clause-kept c = no_value c.from_residual.result _ _ c.from_residual.ensures.1

pub returns-in_err-burst-clause-value : goal.returns-in_err-burst-clause-value
unfolding bucket_at
returns-in_err-burst-clause-value c =
    let e = c.in_err-burst.field-0.0 in
    handed_on _ _ _ _ c.from_residual-in_err-burst.ensures.1 (fails_after _ e c.in_ok-only.ensures (fails_here _ _ e c.in_err-burst.ensures))

pub returns-in_err-burst-clause-kept : goal.returns-in_err-burst-clause-kept
returns-in_err-burst-clause-kept c = no_value c.from_residual-in_err-burst.result _ _ c.from_residual-in_err-burst.ensures.1

pub returns-in_err-rate-clause-value : goal.returns-in_err-rate-clause-value
unfolding bucket_at
returns-in_err-rate-clause-value c =
    let e = c.in_err-rate.field-0.0 in
    handed_on _ _ _ _ c.from_residual-in_err-rate.ensures.1 (fails_after _ e c.in_ok-only.ensures (fails_after _ e c.in_ok-burst.ensures (fails_here _ _ e c.in_err-rate.ensures)))

pub returns-in_err-rate-clause-kept : goal.returns-in_err-rate-clause-kept
returns-in_err-rate-clause-kept c = no_value c.from_residual-in_err-rate.result _ _ c.from_residual-in_err-rate.ensures.1

pub returns-in_err-curve-clause-value : goal.returns-in_err-curve-clause-value
unfolding bucket_at
returns-in_err-curve-clause-value c =
    let e = c.in_err-curve.field-0.0 in
    handed_on _ _ _ _ c.from_residual-in_err-curve.ensures.1 (fails_after _ e c.in_ok-only.ensures (fails_after _ e c.in_ok-burst.ensures (fails_after _ e c.in_ok-rate.ensures (fails_here _ _ e c.in_err-curve.ensures.value))))

pub returns-in_err-curve-clause-kept : goal.returns-in_err-curve-clause-kept
returns-in_err-curve-clause-kept c = no_value c.from_residual-in_err-curve.result _ _ c.from_residual-in_err-curve.ensures.1

pub returns-clause-value : goal.returns-clause-value
unfolding bucket_at
returns-clause-value c =
    read_on _ c.in_ok-only.ensures (read_on _ c.in_ok-burst.ensures (read_on _ c.in_ok-rate.ensures (read_on _ c.in_ok-curve.ensures.value refl)))
