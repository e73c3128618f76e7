-- What the setup of a network and a trace takes from them: the packets and openings, and paths that rise.
use Rattle.std.proofs.Common.{◌≡◌, ℕ, zero, suc, ◌<◌, List, [], ◌∷◌, length, map, get_or, refl, sym, ap, subst, arith, inl, inr, Some, None}
use Rattle.std.specs.Prelude.{Option, pos, Contains, ◌==◌, slice_get}
use Rattle.std.specs.List.{AllByRecursion}
use Rattle.std.proofs.lemmas.Bool.{cases_Bool}
use Rattle.std.proofs.lemmas.List.{get_or-map, length-map}
use Rattle.rational.specs.Rational.{int, ◌≤ℚ◌}
use Rattle.rational.proofs.Laws.{le_of_lt}
use Rattle.run_laws.specs.Routes.{Route, route_of}
use Rattle.net_model.specs.declared.trace.TracePacket.{TracePacket}
use Rattle.net_model.specs.declared.trace.Stall.{Stall}
use Rattle.net_model.specs.Networks.{Net, NetServer, NetFlow}
use Rattle.net_model.specs.NetRoutes.{hops_along, route_for, routes_of}
use Rattle.net_model.specs.Accepted.{IsAccepted}
use Rattle.net_model.specs.Traces.{SpecTrace, IsTrace, IsStall}
use Rattle.net_model.specs.Walks.{IsFeedForward}
use Rattle.net_model.specs.stated_runs.Setups.{Entering, GateTimes, StallTimes, Opening, opening_of, packet_of}
use Rattle.net_model.specs.stated_runs.FromTraces.{gate_of, stalls_at, openings_from, entering, setup_of, IsTraceOf}
use Rattle.net_model.proofs.stated_runs.Lists.{In, in_contains}
use Rattle.sim_bounds.specs.Horizons.{IsRising, IsForward}
use Rattle.sim_bounds.proofs.Members.{all_in, at_in_list}
use Rattle.sim_bounds.proofs.Places.{place_of_server, places_grow}

-- ---- the openings of servers
abbrev pub always : Opening
always = record { gate = None; stalls = [] }

any_opening : (P : Opening → Type 0) (k : ℕ) (xs : List NetServer) (stalls : List Stall) (s : ℕ) → P always
    → ((x : NetServer) (j : ℕ) → In xs x → P record { gate = gate_of x.kind; stalls = stalls_at j stalls }) → P (get_or (openings_from k xs stalls) s always)
any_opening P k [] stalls s none some = none
any_opening P k (x ∷ xs) stalls zero none some = some x k (inl refl)
any_opening P k (x ∷ xs) stalls (suc s) none some = any_opening P (suc k) xs stalls s none (λ y j h. some y j (inr h))

pub many_openings : (k : ℕ) (xs : List NetServer) (stalls : List Stall) → length (openings_from k xs stalls) ≡ length xs
many_openings k [] stalls = refl
many_openings k (x ∷ xs) stalls = ap (λ n. suc n) (many_openings (suc k) xs stalls)

pub each_stall : (P : StallTimes → Type 0) (j : ℕ) (xs : List Stall) → ((x : Stall) → In xs x → P record { start = x.start; end = x.end })
    → AllByRecursion P (stalls_at j xs)
each_stall P j [] h = tt
each_stall P j (x ∷ xs) h = elim (cases_Bool (x.server == j)) [
  | inl e ↦ rw e (h x (inl refl), each_stall P j xs (λ y i. h y (inr i)))
  | inr e ↦ rw e (each_stall P j xs (λ y i. h y (inr i)))
]

-- the stalls of each server
pub stalls_of : (P : StallTimes → Type 0) (net : Net) (trace : SpecTrace) → ((x : Stall) → In trace.stalls x → P record { start = x.start; end = x.end })
    → (s : ℕ) → AllByRecursion P (opening_of (setup_of net trace) s).stalls
stalls_of P net trace h s =
    any_opening (λ o. AllByRecursion P o.stalls) 0 net.servers trace.stalls s tt (λ x j i. each_stall P j trace.stalls h)

pub gates_of : (P : Option GateTimes → Type 0) (net : Net) (trace : SpecTrace) → P None → ((x : NetServer) → In net.servers x → P (gate_of x.kind))
    → (s : ℕ) → P (opening_of (setup_of net trace) s).gate
gates_of P net trace none h s = any_opening (λ o. P o.gate) 0 net.servers trace.stalls s none (λ x j i. h x i)

-- ---- paths
-- a path rises where each step of it does
rising_path : (place : ℕ → ℕ) (path queues : List ℕ) → ((k : ℕ) → suc k < length path → place (get_or path k 0) < place (get_or path (suc k) 0))
    → IsRising place (hops_along path queues)
rising_path place [] queues h = tt
rising_path place (s ∷ []) [] h = tt
rising_path place (s ∷ []) (q ∷ queues) h = tt
rising_path place (s ∷ t ∷ path) [] h = tt
rising_path place (s ∷ t ∷ path) (q ∷ []) h = tt
rising_path place (s ∷ t ∷ path) (q ∷ r ∷ queues) h =
    (h 0 (omega arith), rising_path place (t ∷ path) (r ∷ queues) (λ k l. h (suc k) (omega (arith, l))))

found_route : (xs : List (Option NetFlow)) (i : ℕ) (f : NetFlow) → slice_get xs i ≡ Some (Some f)
    → (get_or (map route_for xs) i record { live = Rattle.std.specs.Prelude.false; hops = [] } ≡ route_for (Some f)) × In xs (Some f)
found_route [] i f e = absurd (cc)
found_route (y ∷ ys) zero f e = let g : y ≡ Some f = cc in (ap route_for g, inl g)
found_route (y ∷ ys) (suc i) f e = let r = found_route ys i f e in (r.0, inr r.1)

no_packet : TracePacket
no_packet = record { time = int (pos 0); flow = 0; bits = 0 }

pub packet_in : (net : Net) (trace : SpecTrace) (p : ℕ) → p < length (setup_of net trace).packets
    → (x : TracePacket) × In trace.packets x × (packet_of (setup_of net trace) p ≡ entering x)
packet_in net trace p h =
    let many = length-map trace.packets entering in
    let l : p < length trace.packets = omega (arith, h, many) in (
      get_or trace.packets p no_packet,
      at_in_list trace.packets p no_packet l,
      get_or-map entering trace.packets p no_packet record { flow = 0; bits = 0; time = int (pos 0) } l,
    )

pub made_forward : (net : Net) (trace : SpecTrace) → IsAccepted net → IsTrace trace → IsTraceOf net trace → IsFeedForward net
    → IsForward (setup_of net trace) (place_of_server net)
made_forward net trace ok fine named free = record {
  rising = λ p h.
      let x = packet_in net trace p h in
      let live = all_in (λ (t : TracePacket). Rattle.net_model.specs.stated_runs.FromTraces.IsLive net t.flow) trace.packets named.flows x.0 x.1 in
      let f = live.0 in
      let r = found_route net.flows x.0.flow f live.1 in
      let there : Contains net.flows (Some f) = in_contains net.flows (Some f) r.1 in
      let up : IsRising (place_of_server net) (hops_along f.path f.queues) =
      rising_path (place_of_server net) f.path f.queues
      (λ k l. places_grow net ok free (get_or f.path k 0) (get_or f.path (suc k) 0) record { flow = f; live = there; step = record { hop = k; on_path = l; from = refl; to = refl } }) in
      subst (λ (e : Entering). IsRising (place_of_server net) (route_of (routes_of net) e.flow).hops) (sym x.2)
      (subst (λ (t : Route). IsRising (place_of_server net) t.hops) (sym r.0) up);
  stalls = stalls_of (λ t. t.start ≤ℚ t.end) net trace (λ x h. le_of_lt (all_in IsStall trace.stalls fine.stalls x h).forward);
}
