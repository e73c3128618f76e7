use Rattle.std.proofs.Common.{◌≡◌, Ok, subst}
use Rattle.std.specs.Prelude.{codes}
use Rattle.toml.specs.View.{table_view}
use Rattle.net_draft.specs.Faults.{Fails}
use Rattle.net_draft.specs.Values.{at_key, optional, number_in}
use Rattle.net_draft.specs.Tables.{latency_at}
use Rattle.net_draft.proofs.Chain.{handed_on, fails_here, fails_after, gives_after, no_value}
use Rattle.net_draft.proofs.services.latency_of.Goals as goal

pub returns-in_err-only-clause-value : goal.returns-in_err-only-clause-value
unfolding latency_at
returns-in_err-only-clause-value c =
    let e = c.in_err-only.field-0.0 in
    handed_on _ _ _ _ c.from_residual.ensures.1 (fails_here _ _ e c.in_err-only.ensures)

pub returns-in_err-only-clause-kept : goal.returns-in_err-only-clause-kept
returns-in_err-only-clause-kept c = no_value c.from_residual.result _ _ c.from_residual.ensures.1

pub returns-in_err-latency-clause-value : goal.returns-in_err-latency-clause-value
unfolding latency_at
returns-in_err-latency-clause-value c =
    let e = c.in_err-latency.field-0.0 in
    handed_on _ _ _ _ c.from_residual-in_err-latency.ensures.1 (fails_after _ e c.in_ok-only.ensures (fails_here _ _ e (subst (λ z. Fails e (at_key (codes "latency") (optional number_in z) c.args.place.now (table_view c.args.table.now))) c.zero.ensures c.in_err-latency.ensures)))

pub returns-in_err-latency-clause-kept : goal.returns-in_err-latency-clause-kept
returns-in_err-latency-clause-kept c = no_value c.from_residual-in_err-latency.result _ _ c.from_residual-in_err-latency.ensures.1

pub returns-clause-value : goal.returns-clause-value
unfolding latency_at
returns-clause-value c =
    gives_after _ _ _ c.in_ok-only.ensures (gives_after _ _ _ (subst (λ z. at_key (codes "latency") (optional number_in z) c.args.place.now (table_view c.args.table.now) ≡ Ok c.in_ok-latency.latency) c.zero.ensures c.in_ok-latency.ensures) c.curve_of.ensures.value)
