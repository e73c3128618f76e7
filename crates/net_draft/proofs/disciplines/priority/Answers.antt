use Rattle.std.proofs.Common.{refl}
use Rattle.net_draft.specs.Tables.{priority_at}
use Rattle.net_draft.proofs.Chain.{handed_on, fails_here, fails_after, read_on, no_value}
use Rattle.net_draft.proofs.disciplines.priority.Goals as goal

pub returns-in_err-queues-clause-value : goal.returns-in_err-queues-clause-value
unfolding priority_at
returns-in_err-queues-clause-value c =
    let e = c.in_err-queues.field-0.0 in
    handed_on _ _ _ _ c.from_residual.ensures.1 (fails_here _ _ e c.in_err-queues.ensures.value)

pub returns-in_err-queues-clause-range : goal.returns-in_err-queues-clause-range
returns-in_err-queues-clause-range c = no_value c.from_residual.result _ _ c.from_residual.ensures.1

pub returns-in_err-forbidden-clause-value : goal.returns-in_err-forbidden-clause-value
unfolding priority_at
returns-in_err-forbidden-clause-value c =
    let e = c.in_err-forbidden.field-0.0 in
    handed_on _ _ _ _ c.from_residual-in_err-forbidden.ensures.1 (fails_after _ e c.in_ok-queues.ensures.value (fails_here _ _ e c.in_err-forbidden.ensures))

pub returns-in_err-forbidden-clause-range : goal.returns-in_err-forbidden-clause-range
returns-in_err-forbidden-clause-range c = no_value c.from_residual-in_err-forbidden.result _ _ c.from_residual-in_err-forbidden.ensures.1

pub returns-clause-value : goal.returns-clause-value
unfolding priority_at
returns-clause-value c =
    read_on _ c.in_ok-queues.ensures.value (read_on _ c.in_ok-forbidden.ensures refl)
