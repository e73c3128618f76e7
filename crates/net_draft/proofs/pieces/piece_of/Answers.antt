use Rattle.std.proofs.Common.{◌≡◌, Ok, refl, subst}
use Rattle.std.specs.Prelude.{codes}
use Rattle.toml.specs.View.{table_view}
use Rattle.net_draft.specs.Faults.{Fails}
use Rattle.net_draft.specs.Values.{at_key, optional, number_in}
use Rattle.net_draft.specs.Tables.{piece_at}
use Rattle.net_draft.proofs.Chain.{handed_on, fails_here, fails_after, read_on}
use Rattle.net_draft.proofs.pieces.piece_of.Goals as goal

pub returns-in_err-table : goal.returns-in_err-table
unfolding piece_at
returns-in_err-table c =
    let e = c.in_err-table.field-0.0 in
    handed_on _ _ _ _ c.from_residual.ensures.1 (fails_here _ _ e c.in_err-table.ensures)

pub returns-in_err-only : goal.returns-in_err-only
unfolding piece_at
returns-in_err-only c =
    let e = c.in_err-only.field-0.0 in
    handed_on _ _ _ _ c.from_residual-in_err-only.ensures.1 (fails_after _ e c.in_ok-table.ensures (fails_here _ _ e c.in_err-only.ensures))

pub returns-in_err-x : goal.returns-in_err-x
unfolding piece_at
returns-in_err-x c =
    let e = c.in_err-x.field-0.0 in
    handed_on _ _ _ _ c.from_residual-in_err-x.ensures.1 (fails_after _ e c.in_ok-table.ensures (fails_after _ e c.in_ok-only.ensures (fails_here _ _ e c.in_err-x.ensures)))

pub returns-in_err-at : goal.returns-in_err-at
unfolding piece_at
returns-in_err-at c =
    let e = c.in_err-at.field-0.0 in
    handed_on _ _ _ _ c.from_residual-in_err-at.ensures.1 (fails_after _ e c.in_ok-table.ensures (fails_after _ e c.in_ok-only.ensures (fails_after _ e c.in_ok-x.ensures (fails_here _ _ e c.in_err-at.ensures))))

pub returns-in_err-after : goal.returns-in_err-after
unfolding piece_at
returns-in_err-after c =
    let e = c.in_err-after.field-0.0 in
    handed_on _ _ _ _ c.from_residual-in_err-after.ensures.1 (fails_after _ e c.in_ok-table.ensures (fails_after _ e c.in_ok-only.ensures (fails_after _ e c.in_ok-x.ensures (fails_after _ e c.in_ok-at.ensures (fails_here _ _ e c.in_err-after.ensures)))))

pub returns-in_err-slope : goal.returns-in_err-slope
unfolding piece_at
returns-in_err-slope c =
    let e = c.in_err-slope.field-0.0 in
    handed_on _ _ _ _ c.from_residual-in_err-slope.ensures.1 (fails_after _ e c.in_ok-table.ensures (fails_after _ e c.in_ok-only.ensures (fails_after _ e c.in_ok-x.ensures (fails_after _ e c.in_ok-at.ensures (fails_after _ e c.in_ok-after.ensures (fails_here _ _ e (subst (λ z. Fails e (at_key (codes "slope") (optional number_in z) c.args.place.now (table_view c.in_ok-table.table.now))) c.zero.ensures c.in_err-slope.ensures)))))))

pub returns : goal.returns
unfolding piece_at
returns c =
    read_on _ c.in_ok-table.ensures (read_on _ c.in_ok-only.ensures (read_on _ c.in_ok-x.ensures (read_on _ c.in_ok-at.ensures (read_on _ c.in_ok-after.ensures (read_on _ (subst (λ z. at_key (codes "slope") (optional number_in z) c.args.place.now (table_view c.in_ok-table.table.now) ≡ Ok c.in_ok-slope.slope) c.zero.ensures c.in_ok-slope.ensures) refl)))))
