use Rattle.std.proofs.Common.{refl}
use Rattle.net_draft.specs.Tables.{fifo_at}
use Rattle.net_draft.proofs.Chain.{handed_on, fails_here, fails_after, read_on, no_value}
use Rattle.net_draft.proofs.disciplines.fifo.Goals as goal

pub returns-in_err-forbidden-clause-value : goal.returns-in_err-forbidden-clause-value
unfolding fifo_at
returns-in_err-forbidden-clause-value c =
    let e = c.in_err-forbidden.field-0.0 in
    handed_on _ _ _ _ c.from_residual.ensures.1 (fails_here _ _ e c.in_err-forbidden.ensures)

pub returns-in_err-forbidden-clause-range : goal.returns-in_err-forbidden-clause-range
returns-in_err-forbidden-clause-range c = no_value c.from_residual.result _ _ c.from_residual.ensures.1

pub returns-in_err-forbidden-2-clause-value : goal.returns-in_err-forbidden-2-clause-value
unfolding fifo_at
returns-in_err-forbidden-2-clause-value c =
    let e = c.in_err-forbidden-2.field-0.0 in
    handed_on _ _ _ _ c.from_residual-in_err-forbidden-2.ensures.1 (fails_after _ e c.in_ok-forbidden.ensures (fails_here _ _ e c.in_err-forbidden-2.ensures))

pub returns-in_err-forbidden-2-clause-range : goal.returns-in_err-forbidden-2-clause-range
returns-in_err-forbidden-2-clause-range c = no_value c.from_residual-in_err-forbidden-2.result _ _ c.from_residual-in_err-forbidden-2.ensures.1

pub returns-clause-value : goal.returns-clause-value
unfolding fifo_at
returns-clause-value c =
    read_on _ c.in_ok-forbidden.ensures (read_on _ c.in_ok-forbidden-2.ensures refl)
