-- A network can be built of a draft, or one of its curves is the first over a limit.
use Rattle.std.specs.Prelude.{◌≢◌, ◌⊎◌, All, Option, Some}
use Rattle.std.specs.List.{AllZip}
use Rattle.std.proofs.Common.{ℕ, ◌+◌, List, [], ◌∷◌, map, Bool, true, false, Result, Ok, Err, IfOk, inl, inr, refl}
use Rattle.std.proofs.lemmas.List.Elements.{All-head, All-tail}
use Rattle.upp_curve.specs.Curve.{SpecCurve, value_at}
use Rattle.upp_curve.specs.Curves.{IsCurve}
use Rattle.min_plus.specs.Functions.{IsFinite, IsNonnegative}
use Rattle.upp_limits.specs.declared.own_limits.OverLimit.{OverLimit}
use Rattle.upp_limits.specs.declared.own_limits.OverLimit.TheVariants as limits
use Rattle.upp_limits.specs.declared.op_kind.OpFault.{OpFault}
use Rattle.upp_limits.specs.declared.op_kind.OpFault.TheVariants as faults
use Rattle.net_model.specs.Networks.{Net, NetServer, NetFlow}
use Rattle.net_draft.specs.declared.draft.Draft.{Draft}
use Rattle.net_draft.specs.declared.flow_draft.FlowDraft.{FlowDraft}
use Rattle.net_draft.specs.declared.server_draft.ServerDraft.{ServerDraft}
use Rattle.net_draft.specs.CurveTexts.{text_of}
use Rattle.net_draft.specs.DraftViews.{draft_text}
use Rattle.net_draft.specs.Faults.{Fault}
use Rattle.net_draft.specs.Kept.{IsServerDraft, IsArrivalDraft, IsDraft}
use Rattle.net_draft.specs.Laws.{kind_of}
use Rattle.net_draft.specs.Made.{IsMade}
use Rattle.net_draft.specs.Texts.{CurveText, IsArrivalOf}
use Rattle.net_draft.specs.Views.{server_text, flow_text}
use Rattle.net_draft.proofs.MayStand.{made_may_stand}
use Rattle.subadd_closure.specs.Folds.{CloseAnswer}
use Rattle.net_text.specs.Becoming.{Becomes, BecomesItself, limit_fault}
use Rattle.net_text.specs.Built.{IsServerOf, IsLiveFlowOf, IsBuilt}
use Rattle.net_text.specs.Closing.{Closes}
use Rattle.net_text.specs.Firsts.{PlacedCurve, service_place, arrival_place, services_from, arrivals_from, FirstCurveOver}
use Rattle.net_text.proofs.Accepted.{accepted}
use Rattle.net_text.proofs.Folding.{keeps_closing}
use Rattle.net_text.proofs.Firsts.{after_services, among_services}
use Rattle.existence.proofs.closures.Folds.{closures_exist}
use Rattle.existence.specs.drafts.Drafts.{HasService, HasArrival, HasNetworkOrFault}

-- the first of some curves over a limit
abbrev HasFault : List PlacedCurve → Type 0
HasFault es = (f : Fault) × FirstCurveOver es f

-- ---- services
service_of : (text : CurveText) (made : Result SpecCurve OverLimit) → IsMade text made → IfOk made IsCurve
    → (r : Result SpecCurve OverLimit) × BecomesItself text r
service_of text (Ok c) m k = (Ok c, record { curve = k; made = m })
service_of text (Err limit) m k = (Err limit, m)

abbrev server_with : ServerDraft → SpecCurve → NetServer
server_with s c = record {
  name = (server_text s).name;
  rate = s.rate;
  kind = kind_of (text_of s.service.text);
  service = c;
  link = s.link;
  discipline = (server_text s).discipline;
}

abbrev HasServers : ℕ → List ServerDraft → Type 0
HasServers number ss =
    ((ns : List NetServer) × AllZip IsServerOf (map server_text ss) ns) ⊎ HasFault (services_from number (map server_text ss))

next_server : (number : ℕ) (s : ServerDraft) (ss : List ServerDraft) (r : Result SpecCurve OverLimit)
    → BecomesItself (text_of s.service.text) r → HasServers (number + 1) ss → HasServers number (s ∷ ss)
next_server number s ss (Err limit) b rest =
    inr (limit_fault limit (service_place number), inl record { limit = limit; over = b; is = refl })
next_server number s ss (Ok c) b (inl rest) = inl (
  server_with s c ∷ rest.0,
  (record { name = refl; rate = refl; kind = refl; service = b; link = refl; discipline = refl }, rest.1),
)
next_server number s ss (Ok c) b (inr rest) = inr (rest.0, inr (record { curve = c; is = b }, rest.1))

servers_of : (number : ℕ) (ss : List ServerDraft) → All IsServerDraft ss → All HasService ss → HasServers number ss
servers_of number [] drafts curves = inl ([], tt)
servers_of number (s ∷ ss) drafts curves =
    let (r, b) = service_of (text_of s.service.text) s.service.made (All-head IsServerDraft s ss drafts).service.made
    (All-head HasService s ss curves) in
    next_server number s ss r b (servers_of (number + 1) ss (All-tail IsServerDraft s ss drafts) (All-tail HasService s ss curves))

-- ---- arrivals
closes : (c : SpecCurve) → IsCurve c → IsFinite (value_at c) → IsNonnegative (value_at c) → (r : Result SpecCurve OpFault)
    → CloseAnswer c r → r ≢ Err faults.NoMemory → (o : Result SpecCurve OverLimit) × Closes c o
closes c C fin low (Ok h) a found = (Ok h, keeps_closing c (Ok h) C fin low a)
closes c C fin low (Err faults.TooMany) a found = (Err limits.TooMany, a)
closes c C fin low (Err faults.TooWide) a found = (Err limits.TooWide, a)
closes c C fin low (Err faults.NoMemory) a found = absurd (found refl)

closed : (text : CurveText) (c : SpecCurve) (k : IsCurve c) (m : IsMade text (Ok c)) (r : Result SpecCurve OverLimit)
    → Closes c r → (r : Result SpecCurve OverLimit) × Becomes true text r
closed text c k m (Ok d) h = (Ok d, record { made = c; is = record { curve = k; made = m }; closes = h })
closed text c k m (Err limit) h = (Err limit, inr record { made = c; is = record { curve = k; made = m }; closes = h })

arrival_of : (packet : ℕ) (asked : Bool) (text : CurveText) (made : Result SpecCurve OverLimit) → IsArrivalOf packet text
    → IsMade text made → IfOk made IsCurve → (r : Result SpecCurve OverLimit) × Becomes asked text r
arrival_of packet false text made own m k = service_of text made m k
arrival_of packet true text (Err limit) own m k = (Err limit, inl m)
arrival_of packet true text (Ok c) own m k =
    let stands = made_may_stand.arrival packet text c own m in
    let a = closures_exist c k stands.finite stands.nonnegative in
    let (r, h) = closes c k stands.finite stands.nonnegative a.answer a.is a.found in
    closed text c k m r h

abbrev flow_with : FlowDraft → SpecCurve → NetFlow
flow_with f c = record {
  name = (flow_text f).name;
  path = map (λ h. h.server) f.path.items;
  queues = map (λ h. h.queue) f.path.items;
  packet = f.packet;
  arrival = c;
}

abbrev HasFlows : ℕ → List FlowDraft → Type 0
HasFlows number fs =
    ((ns : List (Option NetFlow)) × AllZip IsLiveFlowOf (map flow_text fs) ns)
    ⊎ HasFault (arrivals_from number (map flow_text fs))

next_flow : (number : ℕ) (f : FlowDraft) (fs : List FlowDraft) (r : Result SpecCurve OverLimit)
    → Becomes f.closes (text_of f.arrival.text) r → HasFlows (number + 1) fs → HasFlows number (f ∷ fs)
next_flow number f fs (Err limit) b rest =
    inr (limit_fault limit (arrival_place number), inl record { limit = limit; over = b; is = refl })
next_flow number f fs (Ok c) b (inl rest) = inl (
  Some (flow_with f c) ∷ rest.0,
  (
    record {
      flow = flow_with f c;
      live = refl;
      is = record { name = refl; path = refl; queues = refl; packet = refl; arrival = b };
    },
    rest.1,
  ),
)
next_flow number f fs (Ok c) b (inr rest) = inr (rest.0, inr (record { curve = c; is = b }, rest.1))

abbrev IsMadeFlow : FlowDraft → Type 0
IsMadeFlow f = IsArrivalDraft f.packet f.arrival

flows_of : (number : ℕ) (fs : List FlowDraft) → All IsMadeFlow fs → All HasArrival fs → HasFlows number fs
flows_of number [] drafts curves = inl ([], tt)
flows_of number (f ∷ fs) drafts curves =
    let made = All-head IsMadeFlow f fs drafts in
    let (r, b) = arrival_of f.packet f.closes (text_of f.arrival.text) f.arrival.made made.own made.made (All-head HasArrival f fs curves) in
    next_flow number f fs r b (flows_of (number + 1) fs (All-tail IsMadeFlow f fs drafts) (All-tail HasArrival f fs curves))

-- ---- drafts
pub has_network : (d : Draft) → IsDraft d → All HasService d.servers.items → All HasArrival d.flows.items
    → HasNetworkOrFault (draft_text d)
has_network d is services arrivals = elim (servers_of 0 d.servers.items is.servers services) [
  | inr fault ↦ inr (
    fault.0,
    among_services (services_from 0 (map server_text d.servers.items)) (arrivals_from 0 (map flow_text d.flows.items)) fault.0 fault.1,
  )
  | inl servers ↦ elim (flows_of 0 d.flows.items (λ k e l. (is.flows k e l).arrival) arrivals) [
    | inr fault ↦ inr (
      fault.0,
      after_services 0 (map server_text d.servers.items) servers.0 (arrivals_from 0 (map flow_text d.flows.items)) fault.0 servers.1 fault.1,
    )
    | inl flows ↦
        let net : Net = record { version = d.version; servers = servers.0; flows = flows.0 } in
        let built : IsBuilt (draft_text d) net = record { version = refl; servers = servers.1; flows = flows.1 } in
        inl record { net = net; built = built; accepted = accepted d net is built }
  ]
]
