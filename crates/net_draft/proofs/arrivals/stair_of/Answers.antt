use Rattle.std.proofs.Common.{◌≡◌, Ok, refl, subst}
use Rattle.std.specs.Prelude.{codes}
use Rattle.toml.specs.View.{table_view}
use Rattle.net_draft.specs.Faults.{Fails}
use Rattle.net_draft.specs.Values.{at_key, optional, number_in}
use Rattle.net_draft.specs.Tables.{stair_at}
use Rattle.net_draft.proofs.Chain.{handed_on, fails_here, fails_after, read_on, no_value}
use Rattle.net_draft.proofs.arrivals.stair_of.Goals as goal

pub returns-in_err-only-clause-value : goal.returns-in_err-only-clause-value
unfolding stair_at
returns-in_err-only-clause-value c =
    let e = c.in_err-only.field-0.0 in
    handed_on _ _ _ _ c.from_residual.ensures.1 (fails_here _ _ e c.in_err-only.ensures)

pub returns-in_err-only-clause-kept : goal.returns-in_err-only-clause-kept
returns-in_err-only-clause-kept c = no_value c.from_residual.result _ _ c.from_residual.ensures.1

pub returns-in_err-period-clause-value : goal.returns-in_err-period-clause-value
unfolding stair_at
returns-in_err-period-clause-value c =
    let e = c.in_err-period.field-0.0 in
    handed_on _ _ _ _ c.from_residual-in_err-period.ensures.1 (fails_after _ e c.in_ok-only.ensures (fails_here _ _ e c.in_err-period.ensures))

pub returns-in_err-period-clause-kept : goal.returns-in_err-period-clause-kept
returns-in_err-period-clause-kept c = no_value c.from_residual-in_err-period.result _ _ c.from_residual-in_err-period.ensures.1

pub returns-in_err-jitter-clause-value : goal.returns-in_err-jitter-clause-value
unfolding stair_at
returns-in_err-jitter-clause-value c =
    let e = c.in_err-jitter.field-0.0 in
    handed_on _ _ _ _ c.from_residual-in_err-jitter.ensures.1 (fails_after _ e c.in_ok-only.ensures (fails_after _ e c.in_ok-period.ensures (fails_here _ _ e (subst (λ z. Fails e (at_key (codes "jitter") (optional number_in z) c.args.place.now (table_view c.args.table.now))) c.zero.ensures c.in_err-jitter.ensures))))

pub returns-in_err-jitter-clause-kept : goal.returns-in_err-jitter-clause-kept
returns-in_err-jitter-clause-kept c = no_value c.from_residual-in_err-jitter.result _ _ c.from_residual-in_err-jitter.ensures.1

pub returns-in_err-curve-clause-value : goal.returns-in_err-curve-clause-value
unfolding stair_at
returns-in_err-curve-clause-value c =
    let e = c.in_err-curve.field-0.0 in
    handed_on _ _ _ _ c.from_residual-in_err-curve.ensures.1 (fails_after _ e c.in_ok-only.ensures (fails_after _ e c.in_ok-period.ensures (fails_after _ e (subst (λ z. at_key (codes "jitter") (optional number_in z) c.args.place.now (table_view c.args.table.now) ≡ Ok c.in_ok-jitter.jitter) c.zero.ensures c.in_ok-jitter.ensures) (fails_here _ _ e c.in_err-curve.ensures.value))))

pub returns-in_err-curve-clause-kept : goal.returns-in_err-curve-clause-kept
returns-in_err-curve-clause-kept c = no_value c.from_residual-in_err-curve.result _ _ c.from_residual-in_err-curve.ensures.1

pub returns-clause-value : goal.returns-clause-value
unfolding stair_at
returns-clause-value c =
    read_on _ c.in_ok-only.ensures (read_on _ c.in_ok-period.ensures (read_on _ (subst (λ z. at_key (codes "jitter") (optional number_in z) c.args.place.now (table_view c.args.table.now) ≡ Ok c.in_ok-jitter.jitter) c.zero.ensures c.in_ok-jitter.ensures) (read_on _ c.in_ok-curve.ensures.value refl)))
