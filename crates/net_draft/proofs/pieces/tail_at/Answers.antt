use Rattle.std.proofs.Common.{refl}
use Rattle.net_draft.specs.Tables.{tail_at}
use Rattle.net_draft.proofs.Chain.{handed_on, fails_here, fails_after, read_on}
use Rattle.net_draft.proofs.pieces.tail_at.Goals as goal

pub returns-in_err-table : goal.returns-in_err-table
unfolding tail_at
returns-in_err-table c =
    let e = c.in_err-table.field-0.0 in
    handed_on _ _ _ _ c.from_residual.ensures.1 (fails_here _ _ e c.in_err-table.ensures)

pub returns-in_err-only : goal.returns-in_err-only
unfolding tail_at
returns-in_err-only c =
    let e = c.in_err-only.field-0.0 in
    handed_on _ _ _ _ c.from_residual-in_err-only.ensures.1 (fails_after _ e c.in_ok-table.ensures (fails_here _ _ e c.in_err-only.ensures))

pub returns-in_err-rank : goal.returns-in_err-rank
unfolding tail_at
returns-in_err-rank c =
    let e = c.in_err-rank.field-0.0 in
    handed_on _ _ _ _ c.from_residual-in_err-rank.ensures.1 (fails_after _ e c.in_ok-table.ensures (fails_after _ e c.in_ok-only.ensures (fails_here _ _ e c.in_err-rank.ensures)))

pub returns-in_err-period : goal.returns-in_err-period
unfolding tail_at
returns-in_err-period c =
    let e = c.in_err-period.field-0.0 in
    handed_on _ _ _ _ c.from_residual-in_err-period.ensures.1 (fails_after _ e c.in_ok-table.ensures (fails_after _ e c.in_ok-only.ensures (fails_after _ e c.in_ok-rank.ensures (fails_here _ _ e c.in_err-period.ensures))))

pub returns-in_err-rise : goal.returns-in_err-rise
unfolding tail_at
returns-in_err-rise c =
    let e = c.in_err-rise.field-0.0 in
    handed_on _ _ _ _ c.from_residual-in_err-rise.ensures.1 (fails_after _ e c.in_ok-table.ensures (fails_after _ e c.in_ok-only.ensures (fails_after _ e c.in_ok-rank.ensures (fails_after _ e c.in_ok-period.ensures (fails_here _ _ e c.in_err-rise.ensures)))))

pub returns : goal.returns
unfolding tail_at
returns c =
    read_on _ c.in_ok-table.ensures (read_on _ c.in_ok-only.ensures (read_on _ c.in_ok-rank.ensures (read_on _ c.in_ok-period.ensures (read_on _ c.in_ok-rise.ensures refl))))
