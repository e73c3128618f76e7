use Rattle.std.proofs.Common.{refl}
use Rattle.net_draft.specs.Tables.{listed_arrival_at}
use Rattle.net_draft.proofs.Chain.{handed_on, fails_here, fails_after, read_on, no_value}
use Rattle.net_draft.proofs.arrivals.listed_of.Goals as goal

pub returns-in_err-only-clause-value : goal.returns-in_err-only-clause-value
unfolding listed_arrival_at
returns-in_err-only-clause-value c =
    let e = c.in_err-only.field-0.0 in handed_on _ _ _ _ c.from_residual.ensures.1 (fails_here _ _ e c.in_err-only.ensures)

pub returns-in_err-only-clause-kept : goal.returns-in_err-only-clause-kept
returns-in_err-only-clause-kept c = no_value c.from_residual.result _ _ c.from_residual.ensures.1

pub returns-in_err-pieces-clause-value : goal.returns-in_err-pieces-clause-value
unfolding listed_arrival_at
returns-in_err-pieces-clause-value c =
    let e = c.in_err-pieces.field-0.0 in handed_on _ _ _ _ c.from_residual-in_err-pieces.ensures.1 (fails_after _ e c.in_ok-only.ensures (fails_here _ _ e c.in_err-pieces.ensures))

pub returns-in_err-pieces-clause-kept : goal.returns-in_err-pieces-clause-kept
returns-in_err-pieces-clause-kept c = no_value c.from_residual-in_err-pieces.result _ _ c.from_residual-in_err-pieces.ensures.1

pub returns-in_err-tail-clause-value : goal.returns-in_err-tail-clause-value
unfolding listed_arrival_at
returns-in_err-tail-clause-value c =
    let e = c.in_err-tail.field-0.0 in handed_on _ _ _ _ c.from_residual-in_err-tail.ensures.1 (fails_after _ e c.in_ok-only.ensures (fails_after _ e c.in_ok-pieces.ensures (fails_here _ _ e c.in_err-tail.ensures)))

pub returns-in_err-tail-clause-kept : goal.returns-in_err-tail-clause-kept
returns-in_err-tail-clause-kept c = no_value c.from_residual-in_err-tail.result _ _ c.from_residual-in_err-tail.ensures.1

pub returns-in_err-closes-clause-value : goal.returns-in_err-closes-clause-value
unfolding listed_arrival_at
returns-in_err-closes-clause-value c =
    let e = c.in_err-closes.field-0.0 in handed_on _ _ _ _ c.from_residual-in_err-closes.ensures.1 (fails_after _ e c.in_ok-only.ensures (fails_after _ e c.in_ok-pieces.ensures (fails_after _ e c.in_ok-tail.ensures (fails_here _ _ e c.in_err-closes.ensures))))

pub returns-in_err-closes-clause-kept : goal.returns-in_err-closes-clause-kept
returns-in_err-closes-clause-kept c = no_value c.from_residual-in_err-closes.result _ _ c.from_residual-in_err-closes.ensures.1

pub returns-in_err-curve-clause-value : goal.returns-in_err-curve-clause-value
unfolding listed_arrival_at
returns-in_err-curve-clause-value c =
    let e = c.in_err-curve.field-0.0 in handed_on _ _ _ _ c.from_residual-in_err-curve.ensures.1 (fails_after _ e c.in_ok-only.ensures (fails_after _ e c.in_ok-pieces.ensures (fails_after _ e c.in_ok-tail.ensures (fails_after _ e c.in_ok-closes.ensures (fails_here _ _ e c.in_err-curve.ensures.value)))))

pub returns-in_err-curve-clause-kept : goal.returns-in_err-curve-clause-kept
returns-in_err-curve-clause-kept c = no_value c.from_residual-in_err-curve.result _ _ c.from_residual-in_err-curve.ensures.1

pub returns-clause-value : goal.returns-clause-value
unfolding listed_arrival_at
returns-clause-value c =
    read_on _ c.in_ok-only.ensures (read_on _ c.in_ok-pieces.ensures (read_on _ c.in_ok-tail.ensures (read_on _ c.in_ok-closes.ensures (read_on _ c.in_ok-curve.ensures.value refl))))
