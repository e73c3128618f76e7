-- What is built of a draft is a network.
use Rattle.std.specs.Prelude.{◌≢◌, All, AllPairs, slice_index}
use Rattle.std.specs.List.{AllZip}
use Rattle.std.proofs.Common.{◌≡◌, ℕ, ◌<◌, Bool, true, false, List, length, map, get_or, Option, Some, Ok, refl, sym, ap, ◌∙◌, subst, arith}
use Rattle.std.proofs.lemmas.List.{length-map, get_or-map}
use Rattle.std.proofs.lemmas.List.Elements.{All-contains}
use Rattle.std.proofs.lemmas.Option.{same_Some}
use Rattle.rational.specs.Rational.{ℚ, ◌≤ℚ◌, ◌<ℚ◌}
use Rattle.upp_curve.specs.Curve.{SpecCurve, value_at}
use Rattle.min_plus.specs.Functions.{zero_q}
use Rattle.run_laws.specs.Servers.{Discipline, queue_count}
use Rattle.min_plus.proofs.closure_laws.KeptShapes.{closures_keep}
use Rattle.net_model.specs.declared.server.ServiceKind.{ServiceKind}
use Rattle.net_model.specs.Accepted.{IsVersion, IsLength, HasFewQueues, IsInQuantum, IsOfKind, IsServer, IsArrivalCurve, IsHop, IsFlow, IsAccepted}
use Rattle.net_model.specs.Names.{IsName, DifferInName}
use Rattle.net_model.specs.Networks.{Net, NetServer, NetFlow}
use Rattle.net_draft.specs.declared.hop.Hop.{Hop}
use Rattle.net_draft.specs.declared.server_draft.ServerDraft.{ServerDraft}
use Rattle.net_draft.specs.declared.flow_draft.FlowDraft.{FlowDraft}
use Rattle.net_draft.specs.declared.draft.Draft.{Draft}
use Rattle.net_draft.specs.CurveTexts.{text_of}
use Rattle.net_draft.specs.DraftViews.{draft_text}
use Rattle.net_draft.specs.Kept.{IsServerDraft, IsFlowDraft, IsDraft}
use Rattle.net_draft.specs.Laws.{kind_of}
use Rattle.net_draft.specs.Texts.{CurveText, ServerText, FlowText, IsArrivalOf, IsHopOf, IsWithinQuantum}
use Rattle.net_draft.specs.Views.{server_text, flow_text}
use Rattle.net_draft.proofs.MayStand.{made_may_stand}
use Rattle.net_draft.proofs.Named.{All-unmap}
use Rattle.net_text.specs.Becoming.{Becomes}
use Rattle.net_text.specs.Built.{IsServerOf, IsFlowOf, IsLiveFlowOf, IsBuilt}
use Rattle.net_text.proofs.Zips.{zip_unmap, zip_length, partner, zip_all, zip_pairs}
use Rattle.net_model.proofs.Placed.{MayBe}

-- ---- servers
is_server : (d : ServerDraft) (s : NetServer) → IsServerDraft d → IsServerOf (server_text d) s → IsServer s
is_server d s h r =
    let text = text_of d.service.text in
    let of_kind : IsOfKind d.rate (kind_of text) s.service = made_may_stand.kind d.rate text s.service h.service.own r.service.made in
    let of_rate : IsOfKind s.rate (kind_of text) s.service = subst (λ (x : ℚ). IsOfKind x (kind_of text) s.service) (sym r.rate) of_kind in
    record {
      name = subst IsName (sym r.name) h.name;
      rate = subst (λ (x : ℚ). zero_q <ℚ x) (sym r.rate) h.rate;
      kind = subst (λ (k : ServiceKind). IsOfKind s.rate k s.service) (sym r.kind) of_rate;
      service = made_may_stand.service d.rate text s.service h.service.own r.service.made;
      link = subst (λ (x : ℚ). zero_q ≤ℚ x) (sym r.link) h.link;
      queues = subst HasFewQueues (sym r.discipline) h.queues;
    }

-- ---- hops
no_hop : Hop
no_hop = record { server = 0; queue = 0 }

-- what is at a place of a part of the hops
at_hop : (f : Hop → ℕ) (hops : List Hop) (xs : List ℕ) (k : ℕ) → xs ≡ map f hops → k < length hops → slice_index xs k ≡ f (get_or hops k no_hop)
at_hop f hops xs k same within = ap (λ l. slice_index l k) same ∙ get_or-map f hops k no_hop 0 within

is_hop : (ts : List ServerText) (ss : List NetServer) (bits : ℕ) (h : Hop) → AllZip IsServerOf ts ss → IsHopOf ts h → IsWithinQuantum ts bits h → IsHop ss h.server h.queue bits
is_hop ts ss bits h z of within =
    let p = partner IsServerOf ts ss h.server of.server z of.is in
    let quantum : IsInQuantum of.server.discipline h.queue bits = within of.server of.is in
    record {
      server = p.other;
      is = p.is;
      has_queue = subst (λ (d : Discipline). h.queue < queue_count d) (sym p.related.discipline) of.has_queue;
      takes = subst (λ (d : Discipline). IsInQuantum d h.queue bits) (sym p.related.discipline) quantum;
    }

once_mapped : (hops : List Hop) (xs : List ℕ) → xs ≡ map (λ h. h.server) hops → AllPairs (λ a b. a.server ≢ b.server) hops → AllPairs (λ s t. s ≢ t) xs
once_mapped hops xs same h =
    subst (AllPairs (λ s t. s ≢ t)) (sym same)
    (λ i j d lt within.
    let few : j < length hops = omega (arith, length-map hops (λ (h : Hop). h.server)) in
    let earlier : i < length hops = omega arith in
    let at_i : get_or (map (λ (h : Hop). h.server) hops) i d ≡ (get_or hops i no_hop).server = get_or-map (λ (h : Hop). h.server) hops i no_hop d earlier in
    let at_j : get_or (map (λ (h : Hop). h.server) hops) j d ≡ (get_or hops j no_hop).server = get_or-map (λ (h : Hop). h.server) hops j no_hop d few in
    λ e. h i j no_hop lt few (sym at_i ∙ e ∙ at_j))

-- ---- names
names_differ : (t u : ServerText) (m n : NetServer) → IsServerOf t m → IsServerOf u n → t.name ≢ u.name → m.name ≢ n.name
names_differ t u m n r q apart e = apart (sym r.name ∙ e ∙ q.name)

-- ---- arrivals
is_arrival : (packet : ℕ) (text : CurveText) (closes : Bool) (c : SpecCurve) → IsArrivalOf packet text → Becomes closes text (Ok c) → IsArrivalCurve c
is_arrival packet text false c own h = made_may_stand.arrival packet text c own h.made
is_arrival packet text true c own h =
    let base : IsArrivalCurve h.made = made_may_stand.arrival packet text h.made own h.is.made in
    let keeps = closures_keep (value_at h.made) (value_at c) h.closes.value in
    record { finite = keeps.finite base.finite; rising = keeps.rising base.rising; nonnegative = keeps.nonneg base.nonnegative }

-- ---- flows
is_flow : (ts : List ServerText) (ss : List NetServer) (d : FlowDraft) (f : NetFlow) → AllZip IsServerOf ts ss → IsFlowDraft ts d → All (IsWithinQuantum ts d.packet) d.path.items → IsFlowOf (flow_text d) f
    → IsFlow ss f
is_flow ts ss d f z h fit r =
    let hops = d.path.items in
    let long : length f.path ≡ length hops = ap length r.path ∙ length-map hops (λ (h : Hop). h.server) in
    let wide : length f.queues ≡ length hops = ap length r.queues ∙ length-map hops (λ (h : Hop). h.queue) in
    let hop : (k : ℕ) → k < length f.path → IsHop ss (slice_index f.path k) (slice_index f.queues k) f.packet =
    λ k within.
    let few : k < length hops = omega arith in
    let one = is_hop ts ss d.packet (get_or hops k no_hop) z (h.hops k no_hop few) (fit k no_hop few) in
    let placed = subst (λ n. IsHop ss n (get_or hops k no_hop).queue d.packet) (sym (at_hop (λ h. h.server) hops f.path k r.path few)) one in
    let queued = subst (λ q. IsHop ss (slice_index f.path k) q d.packet) (sym (at_hop (λ h. h.queue) hops f.queues k r.queues few)) placed in
    subst (λ bits. IsHop ss (slice_index f.path k) (slice_index f.queues k) bits) (sym r.packet) queued in
    record {
      name = subst IsName (sym r.name) h.name;
      packet = subst IsLength (sym r.packet) h.packet;
      some = omega (arith, h.some, long);
      few = omega (arith, h.few, long);
      paired = wide ∙ sym long;
      hops = hop;
      once = once_mapped hops f.path r.path h.once;
      arrival = is_arrival d.packet (text_of d.arrival.text) d.closes f.arrival h.arrival.own r.arrival;
    }

-- ---- names of flows
flow_names_differ : (t u : FlowText) (m n : Option NetFlow) → IsLiveFlowOf t m → IsLiveFlowOf u n → t.name ≢ u.name → DifferInName m n
flow_names_differ t u m n r q apart =
    let here : DifferInName (Some r.flow) (Some q.flow) = λ e. apart (sym r.is.name ∙ e ∙ q.is.name) in
    let first : DifferInName m (Some q.flow) = subst (λ (o : Option NetFlow). DifferInName o (Some q.flow)) (sym r.live) here in
    subst (DifferInName m) (sym q.live) first

-- ---- what is built
pub accepted : (d : Draft) (net : Net) → IsDraft d → IsBuilt (draft_text d) net → IsAccepted net
accepted d net h b =
    let ts = map server_text d.servers.items in
    let fs = map flow_text d.flows.items in
    let fits : All (λ (f : FlowDraft). All (IsWithinQuantum ts f.packet) f.path.items) d.flows.items = All-unmap (λ (f : FlowText). All (IsWithinQuantum ts f.packet) f.path) flow_text d.flows.items h.quanta in
    let servers : All IsServer net.servers =
    zip_all (λ d s. IsServerOf (server_text d) s) IsServerDraft IsServer is_server d.servers.items net.servers h.servers (zip_unmap IsServerOf server_text d.servers.items net.servers b.servers) in
    let flows : All (MayBe net.servers) net.flows =
    zip_all (λ (f : FlowDraft) o. IsLiveFlowOf (flow_text f) o) (λ (f : FlowDraft). IsFlowDraft ts f × All (IsWithinQuantum ts f.packet) f.path.items) (MayBe net.servers)
    (λ e o p r f is. subst (IsFlow net.servers) (same_Some r.flow f (sym r.live ∙ is)) (is_flow ts net.servers e r.flow b.servers p.0 p.1 r.is))
    d.flows.items net.flows (λ k e within. (h.flows k e within, fits k e within)) (zip_unmap IsLiveFlowOf flow_text d.flows.items net.flows b.flows) in
    let many : length net.servers ≡ length d.servers.items = zip_length IsServerOf ts net.servers b.servers ∙ length-map d.servers.items server_text in
    let more : length net.flows ≡ length d.flows.items = zip_length IsLiveFlowOf fs net.flows b.flows ∙ length-map d.flows.items flow_text in
    record {
      version = subst IsVersion (sym b.version) h.version;
      few_servers = omega (arith, h.few_servers, many);
      few_flows = omega (arith, h.few_flows, more);
      names = (
        zip_pairs IsServerOf (λ s t. s.name ≢ t.name) (λ s t. s.name ≢ t.name) names_differ ts net.servers h.server_names b.servers,
        zip_pairs IsLiveFlowOf (λ f g. f.name ≢ g.name) DifferInName flow_names_differ fs net.flows h.flow_names b.flows,
      );
      servers = λ s has. All-contains IsServer net.servers s servers has;
      flows = λ f has. All-contains (MayBe net.servers) net.flows (Some f) flows has f refl;
    }
