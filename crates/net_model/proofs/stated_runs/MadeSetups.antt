-- A network and a trace make a setup.
use Rattle.std.proofs.Common.{◌≡◌, ℕ, zero, suc, ◌<◌, ◌≤◌, ◌^◌, List, [], ◌∷◌, length, map, get_or, refl, sym, ap, ◌∙◌, subst, arith, inl, inr, Some, None}
use Rattle.std.specs.Prelude.{pos, ◌==◌, ◌⊎◌, slice_get, slice_index}
use Rattle.std.proofs.lemmas.Bool.{cases_Bool, cases_eq}
use Rattle.std.proofs.lemmas.List.{get_or-map, length-map}
use Rattle.std.proofs.lemmas.Option.{slice_get_within}
use Rattle.rational.specs.Rational.{ℚ, int, ◌≤ℚ◌, ◌<ℚ◌}
use Rattle.rational.proofs.Linear.{with1}
use Rattle.rational.proofs.Laws.{le_refl}
use Rattle.run_laws.specs.Servers.{Fifo, Server, queue_count}
use Rattle.run_laws.specs.Routes.{Route, server_at, route_of}
use Rattle.net_model.specs.declared.server.ServiceKind.{ServiceKind}
use Rattle.net_model.specs.declared.server.ServiceKind.TheVariants.{Latency, Gate, Listed}
use Rattle.net_model.specs.declared.trace.TracePacket.{TracePacket}
use Rattle.net_model.specs.declared.trace.Stall.{Stall}
use Rattle.net_model.specs.Networks.{Net, NetServer}
use Rattle.net_model.specs.NetRoutes.{hops_along, pace_for, route_for, server_for, link_for, routes_of}
use Rattle.net_model.specs.Accepted.{IsAccepted, IsServer, IsFlow, IsHop, IsOfKind}
use Rattle.net_model.specs.Traces.{SpecTrace, IsTrace, IsTracePacket}
use Rattle.net_model.specs.stated_runs.Setups.{Entering, IsGateFor, packet_of, IsHopOf, AreHopsOf, MayComeIn, IsSetup}
use Rattle.net_model.specs.stated_runs.FromTraces.{gate_of, openings_from, entering, setup_of, IsLive, IsTraceOf}
use Rattle.net_model.proofs.stated_runs.Lists.{In, in_contains}

-- ---- servers
abbrev AreServers : List NetServer → Type 0
AreServers xs = (x : NetServer) → In xs x → IsServer x

rates_above : (xs : List NetServer) → AreServers xs → (s : ℕ) → int (pos 0) <ℚ get_or (map (λ (x : NetServer). x.rate) xs) s (int (pos 1))
rates_above [] h s = with1 (int (pos 0)) (λ c. omega (arith, c.le, c.lt, c.same))
rates_above (x ∷ xs) h zero = (h x (inl refl)).rate
rates_above (x ∷ xs) h (suc s) = rates_above xs (λ y i. h y (inr i)) s

links_from_zero : (xs : List NetServer) → AreServers xs → (s : ℕ) → int (pos 0) ≤ℚ get_or (map link_for xs) s (int (pos 0))
links_from_zero [] h s = le_refl (int (pos 0))
links_from_zero (x ∷ xs) h zero = (h x (inl refl)).link
links_from_zero (x ∷ xs) h (suc s) = links_from_zero xs (λ y i. h y (inr i)) s

pace_is : (version : ℕ) (rate : ℚ) → (pace_for version rate ≡ None) ⊎ (pace_for version rate ≡ Some rate)
pace_is version rate = elim (cases_Bool (version == 2)) [ inl e ↦ rw e (inr refl) | inr e ↦ rw e (inl refl) ]

-- a server's pace is not limited, or is its rate
paces_stand : (version : ℕ) (xs : List NetServer) (s : ℕ) → let pace = (get_or (map (server_for version) xs) s record { discipline = Fifo; pace = None }).pace in
    (pace ≡ None) ⊎ (pace ≡ Some (get_or (map (λ (x : NetServer). x.rate) xs) s (int (pos 1))))
paces_stand version [] s = inl refl
paces_stand version (x ∷ xs) zero = pace_is version x.rate
paces_stand version (x ∷ xs) (suc s) = paces_stand version xs s

gate_stands : (x : NetServer) → IsServer x → IsGateFor (gate_of x.kind)
gate_stands x h = by_kind x.kind h.kind
  where
    by_kind : (k : ServiceKind) → IsOfKind x.rate k x.service → IsGateFor (gate_of k)
    by_kind (Latency l) g = tt
    by_kind (Gate c s) g = record { some_slot = g.0; within = g.1 }
    by_kind Listed g = tt

gates_stand : (k : ℕ) (xs : List NetServer) (stalls : List Stall) → AreServers xs → (s : ℕ)
    → IsGateFor (get_or (openings_from k xs stalls) s record { gate = None; stalls = [] }).gate
gates_stand k [] stalls h s = tt
gates_stand k (x ∷ xs) stalls h zero = gate_stands x (h x (inl refl))
gates_stand k (x ∷ xs) stalls h (suc s) = gates_stand (suc k) xs stalls (λ y i. h y (inr i)) s

-- ---- flows
found : {X Y : Type 0} (f : X → Y) (xs : List X) (i : ℕ) (x : X) (d : Y) → slice_get xs i ≡ Some x → get_or (map f xs) i d ≡ f x
found f [] i x d e = absurd (cc)
found f (y ∷ ys) zero x d e = let g : y ≡ x = cc in ap f g
found f (y ∷ ys) (suc i) x d e = found f ys i x d e

in_some : {X : Type 0} (xs : List X) (i : ℕ) (x : X) → slice_get xs i ≡ Some x → In xs x
in_some [] i x e = absurd (cc)
in_some (y ∷ ys) zero x e = let g : y ≡ x = cc in inl g
in_some (y ∷ ys) (suc i) x e = inr (in_some ys i x e)

hop_stands : (net : Net) (s q bits : ℕ) → IsHop net.servers s q bits → IsHopOf (routes_of net) record { server = s; queue = q }
hop_stands net s q bits h =
    let known : s < length net.servers = slice_get_within net.servers s h.server h.is in
    let many : length (map (server_for net.version) net.servers) ≡ length net.servers = length-map net.servers (server_for net.version) in
    let at : server_at (routes_of net) s ≡ server_for net.version h.server = found (server_for net.version) net.servers s h.server record { discipline = Fifo; pace = None } h.is in
    record {
      known_server = omega (arith, known, many);
      known_queue = subst (λ (x : Server). q < queue_count x.discipline) (sym at) h.has_queue;
    }

hops_stand : (net : Net) (bits : ℕ) (path queues : List ℕ) → length queues ≡ length path
    → ((k : ℕ) → k < length path → IsHop net.servers (slice_index path k) (slice_index queues k) bits) → AreHopsOf (routes_of net) (hops_along path queues)
hops_stand net bits [] queues e h = tt
hops_stand net bits (s ∷ path) [] e h = tt
hops_stand net bits (s ∷ path) (q ∷ queues) e h = (
  hop_stands net s q bits (h 0 (omega arith)),
  hops_stand net bits path queues (omega (arith, e)) (λ k l. h (suc k) (omega (arith, l))),
)

some_hops : (path queues : List ℕ) → length queues ≡ length path → 1 ≤ length path → 1 ≤ length (hops_along path queues)
some_hops [] queues e l = absurd (omega (arith, l))
some_hops (s ∷ path) [] e l = absurd (omega (arith, e))
some_hops (s ∷ path) (q ∷ queues) e l = omega arith

-- ---- packets
may_come_in : (net : Net) → IsAccepted net → (p : TracePacket) → IsTracePacket p → IsLive net p.flow → MayComeIn (routes_of net) (entering p)
may_come_in net ok p fine live =
    let f = live.0 in
    let flow : IsFlow net.servers f = ok.flows f (in_contains net.flows (Some f) (in_some net.flows p.flow (Some f) live.1)) in
    let route : route_of (routes_of net) p.flow ≡ route_for (Some f) = found route_for net.flows p.flow (Some f) record { live = Rattle.std.specs.Prelude.false; hops = [] } live.1 in
    record {
      live = ap (λ (r : Route). r.live) route;
      some_hop = subst (λ (r : Route). 1 ≤ length r.hops) (sym route) (some_hops f.path f.queues flow.paired flow.some);
      hops = subst (λ (r : Route). AreHopsOf (routes_of net) r.hops) (sym route) (hops_stand net f.packet f.path f.queues flow.paired flow.hops);
      some_bits = fine.bits.0;
      few_bits = let b = fine.bits.1 in few p.bits b;
    }
  where
    few : (n : ℕ) → n ≤ 2 ^ 24 → n ≤ 2 ^ 32
    few n h = omega (arith, h)

abbrev no_packet : TracePacket
no_packet = record { time = int (pos 0); flow = 0; bits = 0 }

at_packet : (net : Net) (trace : SpecTrace) (p : ℕ) → p < length trace.packets
    → packet_of (setup_of net trace) p ≡ entering (get_or trace.packets p no_packet)
at_packet net trace p h = get_or-map entering trace.packets p no_packet record { flow = 0; bits = 0; time = int (pos 0) } h

pub traces_make_setups : (net : Net) (trace : SpecTrace) → IsAccepted net → IsTrace trace → IsTraceOf net trace → IsSetup (setup_of net trace)
traces_make_setups net trace ok fine named =
    let many : length (map entering trace.packets) ≡ length trace.packets = length-map trace.packets entering in
    let here : AreServers net.servers = λ x i. ok.servers x (in_contains net.servers x i) in
    record {
      as_many = length-map net.servers (λ (s : NetServer). s.rate) ∙ sym (length-map net.servers (server_for net.version));
      rates = rates_above net.servers here;
      paces = λ s. paces_stand net.version net.servers s;
      gates = gates_stand 0 net.servers trace.stalls here;
      links = links_from_zero net.servers here;
      packets = λ p h.
          let l : p < length trace.packets = omega (arith, h, many) in
          subst (λ (e : Entering). MayComeIn (routes_of net) e) (sym (at_packet net trace p l))
          (may_come_in net ok (get_or trace.packets p no_packet) (fine.packets p no_packet l) (named.flows p no_packet l));
      from_zero = λ p h.
          let l : p < length trace.packets = omega (arith, h, many) in
          subst (λ (e : Entering). int (pos 0) ≤ℚ e.time) (sym (at_packet net trace p l)) (fine.packets p no_packet l).from_zero;
      in_order = λ i j le h.
          let l : j < length trace.packets = omega (arith, h, many) in
          elim (cases_eq i j) [
            | inl e ↦ subst (λ k. (packet_of (setup_of net trace) i).time ≤ℚ (packet_of (setup_of net trace) k).time) e (le_refl (packet_of (setup_of net trace) i).time)
            | inr d ↦
                let before : i < j = omega (arith, le, d) in
                let m : i < length trace.packets = omega (arith, before, l) in
                subst (λ (e : Entering). e.time ≤ℚ (packet_of (setup_of net trace) j).time) (sym (at_packet net trace i m))
                (subst (λ (e : Entering). (get_or trace.packets i no_packet).time ≤ℚ e.time) (sym (at_packet net trace j l))
                (fine.in_order i j no_packet before l))
          ];
    }
