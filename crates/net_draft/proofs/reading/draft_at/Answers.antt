use Rattle.std.specs.Prelude.{All}
use Rattle.std.proofs.Common.{◌≡◌, List, map, Ok, refl, subst}
use Rattle.std.proofs.lemmas.List.Elements.{All-map, All-weaker}
use Rattle.net_draft.specs.declared.server_draft.ServerDraft.{ServerDraft}
use Rattle.net_draft.specs.declared.flow_draft.FlowDraft.{FlowDraft}
use Rattle.net_draft.specs.Drafts.{quanta_fit, root_of}
use Rattle.net_draft.specs.Faults.{Fails}
use Rattle.net_draft.specs.Kept.{IsFlowDraft}
use Rattle.net_draft.specs.Texts.{IsHopOf}
use Rattle.net_draft.specs.Views.{server_text, flow_text}
use Rattle.net_draft.proofs.Chain.{handed_on, fails_here, fails_after, read_on, no_value}
use Rattle.net_draft.proofs.QuantaKept.{quanta_kept}
use Rattle.net_draft.proofs.reading.draft_at.Goals as goal

pub returns-in_err-only-clause-value : goal.returns-in_err-only-clause-value
unfolding root_of
returns-in_err-only-clause-value c =
    let e = c.in_err-only.field-0.0 in
    handed_on _ _ _ _ c.from_residual.ensures.1 (fails_here _ _ e c.in_err-only.ensures)

pub returns-in_err-only-clause-kept : goal.returns-in_err-only-clause-kept
returns-in_err-only-clause-kept c = no_value c.from_residual.result _ _ c.from_residual.ensures.1

pub returns-in_err-version-clause-value : goal.returns-in_err-version-clause-value
unfolding root_of
returns-in_err-version-clause-value c =
    let e = c.in_err-version.field-0.0 in
    handed_on _ _ _ _ c.from_residual-in_err-version.ensures.1 (fails_after _ e c.in_ok-only.ensures (fails_here _ _ e c.in_err-version.ensures.value))

pub returns-in_err-version-clause-kept : goal.returns-in_err-version-clause-kept
returns-in_err-version-clause-kept c = no_value c.from_residual-in_err-version.result _ _ c.from_residual-in_err-version.ensures.1

pub returns-in_err-servers-clause-value : goal.returns-in_err-servers-clause-value
unfolding root_of
returns-in_err-servers-clause-value c =
    let e = c.in_err-servers.field-0.0 in
    handed_on _ _ _ _ c.from_residual-in_err-servers.ensures.1 (fails_after _ e c.in_ok-only.ensures (fails_after _ e c.in_ok-version.ensures.value (fails_here _ _ e c.in_err-servers.ensures.value)))

pub returns-in_err-servers-clause-kept : goal.returns-in_err-servers-clause-kept
returns-in_err-servers-clause-kept c = no_value c.from_residual-in_err-servers.result _ _ c.from_residual-in_err-servers.ensures.1

pub returns-in_err-flows-clause-value : goal.returns-in_err-flows-clause-value
unfolding root_of
returns-in_err-flows-clause-value c =
    let e = c.in_err-flows.field-0.0 in
    handed_on _ _ _ _ c.from_residual-in_err-flows.ensures.1 (fails_after _ e c.in_ok-only.ensures (fails_after _ e c.in_ok-version.ensures.value (fails_after _ e c.in_ok-servers.ensures.value (fails_here _ _ e c.in_err-flows.ensures.value))))

pub returns-in_err-flows-clause-kept : goal.returns-in_err-flows-clause-kept
returns-in_err-flows-clause-kept c = no_value c.from_residual-in_err-flows.result _ _ c.from_residual-in_err-flows.ensures.1

pub returns-in_err-all_fit-clause-value : goal.returns-in_err-all_fit-clause-value
unfolding root_of
returns-in_err-all_fit-clause-value c =
    let e = c.in_err-all_fit.field-0.0 in
    let of_servers = subst (λ (ss : List ServerDraft). Fails e (quanta_fit (map flow_text c.deref-2.result.now) 0 (map server_text ss))) c.deref.ensures.value c.in_err-all_fit.ensures in
    let fails = subst (λ (fs : List FlowDraft). Fails e (quanta_fit (map flow_text fs) 0 (map server_text c.in_ok-servers.servers.servers.items))) c.deref-2.ensures.value of_servers in
    handed_on _ _ _ _ c.from_residual-in_err-all_fit.ensures.1 (fails_after _ e c.in_ok-only.ensures (fails_after _ e c.in_ok-version.ensures.value (fails_after _ e c.in_ok-servers.ensures.value (fails_after _ e c.in_ok-flows.ensures.value (fails_here _ _ e fails)))))

pub returns-in_err-all_fit-clause-kept : goal.returns-in_err-all_fit-clause-kept
returns-in_err-all_fit-clause-kept c = no_value c.from_residual-in_err-all_fit.result _ _ c.from_residual-in_err-all_fit.ensures.1

pub returns-clause-value : goal.returns-clause-value
unfolding root_of
returns-clause-value c =
    let of_servers = subst (λ (ss : List ServerDraft). quanta_fit (map flow_text c.deref-2.result.now) 0 (map server_text ss) ≡ Ok tt) c.deref.ensures.value c.in_ok-all_fit.ensures in
    let fit = subst (λ (fs : List FlowDraft). quanta_fit (map flow_text fs) 0 (map server_text c.in_ok-servers.servers.servers.items) ≡ Ok tt) c.deref-2.ensures.value of_servers in
    read_on _ c.in_ok-only.ensures (read_on _ c.in_ok-version.ensures.value (read_on _ c.in_ok-servers.ensures.value (read_on _ c.in_ok-flows.ensures.value (read_on _ fit refl))))

pub returns-clause-kept : goal.returns-clause-kept
returns-clause-kept c =
    let servers = c.in_ok-servers.servers.servers.items in
    let flows = c.in_ok-flows.flows.items in
    let kept : All (IsFlowDraft (map server_text servers)) flows = c.in_ok-flows.ensures.kept in
    let paths : All (λ f. All (IsHopOf (map server_text servers)) f.path) (map flow_text flows) =
    All-map (λ f. All (IsHopOf (map server_text servers)) f.path) flow_text flows
    (All-weaker (IsFlowDraft (map server_text servers)) (λ d. All (IsHopOf (map server_text servers)) d.path.items) (λ d h. h.hops) flows kept) in
    let of_servers = subst (λ ss. quanta_fit (map flow_text c.deref-2.result.now) 0 (map server_text ss) ≡ Ok tt) c.deref.ensures.value c.in_ok-all_fit.ensures in
    let fit = subst (λ fs. quanta_fit (map flow_text fs) 0 (map server_text servers) ≡ Ok tt) c.deref-2.ensures.value of_servers in
    record {
      version = c.in_ok-version.ensures.range;
      few_servers = c.in_ok-servers.servers.few;
      few_flows = c.in_ok-flows.ensures.few;
      server_names = c.in_ok-servers.ensures.names;
      flow_names = c.in_ok-flows.ensures.names;
      servers = c.in_ok-servers.ensures.kept;
      flows = kept;
      quanta = quanta_kept (map flow_text flows) (map server_text servers) fit paths;
    }
