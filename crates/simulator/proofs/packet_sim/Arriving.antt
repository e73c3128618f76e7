-- Steps in which a packet arrives at a server: it enters, or it reaches the server.
use Rattle.std.specs.Prelude.{Some, ◌≡◌, ℕ, ◌+◌, ◌<◌, List, [], ◌∷◌, ◌++◌, length, slice_get}
use Rattle.std.proofs.Common.{refl, sym, ap, ◌∙◌, subst, arith}
use Rattle.rational.specs.Rational.{ℚ, ◌≤ℚ◌}
use Rattle.rational.proofs.Laws.{le_trans}
use Rattle.run_laws.specs.declared.steps.Step.{Step}
use Rattle.run_laws.specs.declared.steps.Step.TheVariants.{Enter, Reach}
use Rattle.run_laws.specs.Cards.{Card, ServerStep, Arrives}
use Rattle.run_laws.specs.Next.{next}
use Rattle.run_laws.specs.Routes.{Hop, server_at, route_of, queue_at, first_server}
use Rattle.run_laws.specs.Views.{Entry, card_of, hops_of, server_of, seen}
use Rattle.run_laws.specs.Lawful as lawful
use Rattle.run_laws.specs.Lawful.{state_at}
use Rattle.queue_sched.specs.Turns.{IsCard}
use Rattle.queue_sched.specs.index_links.Chains.{Chains, IsLinked, unlinked}
use Rattle.net_model.specs.declared.trace.TracePacket.{TracePacket}
use Rattle.net_model.specs.stated_runs.Setups.{Entering, Setup, packet_of}
use Rattle.net_model.specs.stated_runs.DueSteps.{step_time}
use Rattle.net_model.specs.stated_runs.FromTraces.{entering}
use Rattle.net_model.specs.stated_runs.Simulated.{IsNext}
use Rattle.net_model.specs.stated_runs.Laws.{state_after}
use Rattle.net_model.proofs.stated_runs.Lists.{In, in_contains}
use Rattle.net_model.proofs.stated_runs.GoodSteps.{coming}
use Rattle.sim_servers.specs.declared.due.Due.{Due}
use Rattle.sim_servers.specs.declared.due.DueKind.TheVariants as kinds
use Rattle.sim_servers.specs.declared.station.Station.{Station}
use Rattle.sim_servers.specs.Openings.{opening_for, OpeningRoom}
use Rattle.sim_servers.specs.Firsts.{kind_number}
use Rattle.sim_servers.specs.Stations.{IsStation, MayTake}
use Rattle.sim_servers.specs.declared.sim_states.arrival.Arrival.{Arrival}
use Rattle.sim_servers.specs.sim_states.Laws.{IsAfter}
use Rattle.sim_servers.specs.sim_states.Running.{arrival_at, due_at}
use Rattle.sim_servers.proofs.sim_states.Firsts.{first_is_next}
use Rattle.sim_servers.proofs.sim_states.Steps.{step_at, enter_keeps, reach_keeps}
use Rattle.sim_servers.proofs.sim_states.Taking.{may_take_enter, may_take_reach}
use Rattle.sim_servers.specs.sim_loop.Moves.{HasTaken}
use Rattle.simulator.specs.packet_sim.Simulating.{IsSimulating, IsFirstDue}
use Rattle.simulator.proofs.packet_sim.Candidates.{IsEnterDue, enters, reaches, before_start}
use Rattle.simulator.proofs.packet_sim.Common.{rank_same, sound_at, simulating_after, room_at, has_entered, in_trace_of}

-- ---- what is common
pub record MayArriveAt (stations : List Station) (s p q : ℕ) (t : ℚ) : Type 0 where
  pub known : s < length stations
  pub take : (x : Station) → slice_get stations s ≡ Some x → MayTake x p q t
  pub room : (x : Station) → slice_get stations s ≡ Some x → OpeningRoom (opening_for x.opening) t

arrived : (S : Setup) (stations : List Station) (links : Chains) (arrivals : List Arrival) (n : ℕ) (xs : List Step) (d : Due)
    → (h : IsFirstDue S stations links arrivals n xs d) (x : Step) → IsNext S (state_after S xs) x → step_time x ≡ d.time
    → (c : Card) (p q b : ℕ) → seen S.net (state_after S xs).entered x ≡ Arrives c d.time → IsCard c p q b
    → (after : List Station) (k : HasTaken stations after (server_of S.net x) p q b d.time) → IsAfter S xs x k.new
arrived S stations links arrivals n xs d h x n1 time c p q b sees card after k =
    let r = state_after S xs in
    let s = server_of S.net x in
    let sound = sound_at S stations links arrivals n xs h.now in
    let known = (step_at S h.now.setup r x sound n1).known in
    let keeps = h.now.running.servers.kept s k.old k.moved.was in
    let now : (state_at r s).now ≤ℚ d.time =
    le_trans (sound.good.servers s known).by_now (subst (λ u. sound.time ≤ℚ u) time (sound.good.later x n1.due)) in
    let before = before_start S stations links arrivals n (length S.net.servers) d s k.old h.first.1 known k.moved.was in (
      subst (λ (v : ServerStep). IsStation S s (next (server_at S.net s).discipline (state_at r s) v) k.new) (sym sees)
          (k.joined S s (state_at r s) c keeps card now before),
      k.moved.room ∙ h.now.running.servers.rooms s k.old k.moved.was,
    )

-- ---- a packet enters
enter_is_next : (S : Setup) (stations : List Station) (links : Chains) (arrivals : List Arrival) (n : ℕ) (xs : List Step) (d : Due)
    → IsFirstDue S stations links arrivals n xs d → IsEnterDue S n d → (e : TracePacket) → packet_of S d.packet ≡ entering e
    → IsNext S (state_after S xs) (Enter e.flow d.packet e.time e.bits)
enter_is_next S stations links arrivals n xs d h k e is =
    let r = state_after S xs in
    let time : e.time ≡ d.time =
    sym (ap (λ (x : Entering). x.time) is) ∙ ap (λ p. (packet_of S p).time) k.part.packet ∙ sym k.part.time in
    first_is_next S h.now.setup stations links arrivals n xs d h.now.running h.first (Enter e.flow d.packet e.time e.bits)
    record {
      in_turn = k.part.packet ∙ h.now.running.entered_is;
      in_trace = subst (λ p. p < length S.packets) (sym k.part.packet) k.in_trace;
      flow_is = sym (ap (λ (x : Entering). x.flow) is);
      time_is = sym (ap (λ (x : Entering). x.time) is);
      bits_are = sym (ap (λ (x : Entering). x.bits) is);
    }
    time
    (rank_same 3 (kind_number d.kind) 0 d.server d.packet d.packet (sym (ap kind_number k.kind)) (sym k.part.server) refl)

pub enter_in_trace : (S : Setup) (stations : List Station) (links : Chains) (arrivals : List Arrival) (n : ℕ) (xs : List Step) (d : Due)
    → IsFirstDue S stations links arrivals n xs d → d.kind ≡ kinds.Enter → d.packet < length S.packets
enter_in_trace S stations links arrivals n xs d h kind =
    let k = enters S stations links arrivals n (length S.net.servers) d h.first.0 kind in
    subst (λ p. p < length S.packets) (sym k.part.packet) k.in_trace

-- the time at which it enters is that of what is due
enter_time : (S : Setup) (n : ℕ) (d : Due) → IsEnterDue S n d → (e : TracePacket) → packet_of S d.packet ≡ entering e → e.time ≡ d.time
enter_time S n d k e is = sym (ap (λ (x : Entering). x.time) is) ∙ ap (λ p. (packet_of S p).time) k.part.packet ∙ sym k.part.time

pub enter_may : (S : Setup) (stations : List Station) (links : Chains) (arrivals : List Arrival) (n : ℕ) (xs : List Step) (d : Due)
    → IsFirstDue S stations links arrivals n xs d → d.kind ≡ kinds.Enter → (e : TracePacket) → packet_of S d.packet ≡ entering e
    → (s q : ℕ) → s ≡ first_server (route_of S.net e.flow).hops → q ≡ queue_at s (route_of S.net e.flow).hops → MayArriveAt stations s d.packet q d.time
enter_may S stations links arrivals n xs d h kind e is s q at_first in_queue =
    let r = state_after S xs in
    let hops = (route_of S.net e.flow).hops in
    let x = Enter e.flow d.packet e.time e.bits in
    let k = enters S stations links arrivals n (length S.net.servers) d h.first.0 kind in
    let n1 = enter_is_next S stations links arrivals n xs d h k e is in
    let time = enter_time S n d k e is in
    let known = (step_at S h.now.setup r x (sound_at S stations links arrivals n xs h.now) n1).known in
    let many = h.now.running.servers.many in
    record {
      known = omega (arith, known, many, at_first);
      take = λ y at.
          let there : slice_get stations (first_server hops) ≡ Some y = subst (λ j. slice_get stations j ≡ Some y) at_first at in
          let queue : queue_at (first_server hops) hops ≡ q = ap (λ j. queue_at j hops) (sym at_first) ∙ sym in_queue in
          subst (λ j. MayTake y d.packet j d.time) queue (subst (λ u. MayTake y d.packet (queue_at (first_server hops) hops) u) time
          (may_take_enter S h.now.setup stations links arrivals n xs h.now.running h.now.few e.flow d.packet e.time e.bits n1 y there));
      room = λ y at. subst (λ u. OpeningRoom (opening_for y.opening) u) time (room_at S stations links arrivals n xs h.now x n1.due s y at);
    }

pub enter_done : (S : Setup) (stations : List Station) (links : Chains) (arrivals : List Arrival) (n : ℕ) (xs : List Step) (d : Due)
    → IsFirstDue S stations links arrivals n xs d → d.kind ≡ kinds.Enter → (e : TracePacket) → packet_of S d.packet ≡ entering e
    → (s q : ℕ) → s ≡ first_server (route_of S.net e.flow).hops → q ≡ queue_at s (route_of S.net e.flow).hops
    → (after : List Station) → HasTaken stations after s d.packet q e.bits d.time
    → IsSimulating S after links arrivals (n + 1) (xs ++ Enter e.flow d.packet d.time e.bits ∷ [])
enter_done S stations links arrivals n xs d h kind e is s q at_first in_queue after taken =
    let r = state_after S xs in
    let hops = (route_of S.net e.flow).hops in
    let k = enters S stations links arrivals n (length S.net.servers) d h.first.0 kind in
    let n1 = subst (λ u. IsNext S r (Enter e.flow d.packet u e.bits)) (enter_time S n d k e is) (enter_is_next S stations links arrivals n xs d h k e is) in
    let x = Enter e.flow d.packet d.time e.bits in
    let comes = coming S h.now.setup r e.flow d.packet d.time e.bits n1.due in
    let t = subst (λ j. HasTaken stations after j d.packet q e.bits d.time) at_first taken in
    let card : IsCard (card_of S.net (r.entered ++ record { flow = e.flow; bits = e.bits } ∷ []) d.packet (first_server hops)) d.packet q e.bits = record {
      packet_is = refl;
      queue_is =
          ap (λ (i : Entry). queue_at (first_server hops) (route_of S.net i.flow).hops) comes.entry
          ∙ ap (λ j. queue_at j hops) (sym at_first) ∙ sym in_queue;
      bits_are = ap (λ (i : Entry). i.bits) comes.entry;
    } in
    let own = arrived S stations links arrivals n xs d h x n1 refl
    (card_of S.net (r.entered ++ record { flow = e.flow; bits = e.bits } ∷ []) d.packet (first_server hops)) d.packet q e.bits refl card after t in
    simulating_after S stations links arrivals n xs h.now (first_server hops) t.old t.new t.moved.was t.same after t.moved.is links arrivals (n + 1)
    (xs ++ Enter e.flow d.packet d.time e.bits ∷ [])
    (enter_keeps S h.now.setup stations links arrivals n xs h.now.running e.flow d.packet d.time e.bits n1 t.new own)

-- ---- a packet reaches a server
record IsReaching (S : Setup) (links : Chains) (xs : List Step) (d : Due) : Type 0 where
  next_one : IsNext S (state_after S xs) (Reach d.server d.packet d.time)
  linked : IsLinked links d.packet
  entered_one : d.packet < length (state_after S xs).entered

reaching : (S : Setup) (stations : List Station) (links : Chains) (arrivals : List Arrival) (n : ℕ) (xs : List Step) (d : Due)
    → IsFirstDue S stations links arrivals n xs d → d.kind ≡ kinds.Reach → IsReaching S links xs d
reaching S stations links arrivals n xs d h kind =
    let r = state_after S xs in
    let k = reaches S stations links arrivals n (length S.net.servers) d h.first.0 kind in
    let on : lawful.Due = record { packet = d.packet; server = d.server; time = d.time } in
    let same : due_at arrivals d.packet ≡ on =
    ap (λ u. let z : lawful.Due = record { packet = d.packet; server = (arrival_at arrivals d.packet).server; time = u } in z) (sym k.part.time)
    ∙ ap (λ j. let z : lawful.Due = record { packet = d.packet; server = j; time = d.time } in z) (sym k.part.server) in
    let there : In r.due on = subst (In r.due) same (h.now.running.on_links.on_way k.link d.packet k.there) in
    let sound = sound_at S stations links arrivals n xs h.now in
    record {
      next_one = first_is_next S h.now.setup stations links arrivals n xs d h.now.running h.first (Reach d.server d.packet d.time) (in_contains r.due on there) refl
          (rank_same 2 (kind_number d.kind) d.server d.server d.packet d.packet (sym (ap kind_number kind)) refl refl);
      linked = (k.link, k.there);
      entered_one = (sound.good.links on there).entered_one;
    }

pub reach_in_trace : (S : Setup) (stations : List Station) (links : Chains) (arrivals : List Arrival) (n : ℕ) (xs : List Step) (d : Due)
    → IsFirstDue S stations links arrivals n xs d → d.kind ≡ kinds.Reach → d.packet < length S.packets
reach_in_trace S stations links arrivals n xs d h kind =
    in_trace_of S stations links arrivals n xs h.now d.packet (reaching S stations links arrivals n xs d h kind).entered_one

pub reach_linked : (S : Setup) (stations : List Station) (links : Chains) (arrivals : List Arrival) (n : ℕ) (xs : List Step) (d : Due)
    → IsFirstDue S stations links arrivals n xs d → d.kind ≡ kinds.Reach → IsLinked links d.packet
reach_linked S stations links arrivals n xs d h kind = (reaching S stations links arrivals n xs d h kind).linked

pub reach_may : (S : Setup) (stations : List Station) (links : Chains) (arrivals : List Arrival) (n : ℕ) (xs : List Step) (d : Due)
    → IsFirstDue S stations links arrivals n xs d → d.kind ≡ kinds.Reach → (e : TracePacket) → packet_of S d.packet ≡ entering e
    → (q : ℕ) → q ≡ queue_at d.server (route_of S.net e.flow).hops → MayArriveAt stations d.server d.packet q d.time
reach_may S stations links arrivals n xs d h kind e is q in_queue =
    let r = state_after S xs in
    let k = reaching S stations links arrivals n xs d h kind in
    let x = Reach d.server d.packet d.time in
    let known = (step_at S h.now.setup r x (sound_at S stations links arrivals n xs h.now) k.next_one).known in
    let many = h.now.running.servers.many in
    let seen_as = has_entered S stations links arrivals n xs h.now d.packet k.entered_one e is in
    let queue : queue_at d.server (hops_of S.net r.entered d.packet) ≡ q = ap (λ (hs : List Hop). queue_at d.server hs) seen_as.hops ∙ sym in_queue in
    record {
      known = omega (arith, known, many);
      take = λ y at. subst (λ j. MayTake y d.packet j d.time) queue
          (may_take_reach S h.now.setup stations links arrivals n xs h.now.running h.now.few d.server d.packet d.time k.next_one y at);
      room = λ y at. room_at S stations links arrivals n xs h.now x k.next_one.due d.server y at;
    }

pub reach_done : (S : Setup) (stations : List Station) (links : Chains) (arrivals : List Arrival) (n : ℕ) (xs : List Step) (d : Due)
    → IsFirstDue S stations links arrivals n xs d → d.kind ≡ kinds.Reach → (e : TracePacket) → packet_of S d.packet ≡ entering e
    → (q : ℕ) → q ≡ queue_at d.server (route_of S.net e.flow).hops → (after : List Station) → HasTaken stations after d.server d.packet q e.bits d.time
    → IsSimulating S after (unlinked links d.packet) arrivals n (xs ++ Reach d.server d.packet d.time ∷ [])
reach_done S stations links arrivals n xs d h kind e is q in_queue after t =
    let r = state_after S xs in
    let k = reaching S stations links arrivals n xs d h kind in
    let x = Reach d.server d.packet d.time in
    let seen_as = has_entered S stations links arrivals n xs h.now d.packet k.entered_one e is in
    let card : IsCard (card_of S.net r.entered d.packet d.server) d.packet q e.bits = record {
      packet_is = refl;
      queue_is = ap (λ (hs : List Hop). queue_at d.server hs) seen_as.hops ∙ sym in_queue;
      bits_are = seen_as.bits;
    } in
    let own = arrived S stations links arrivals n xs d h x k.next_one refl (card_of S.net r.entered d.packet d.server) d.packet q e.bits refl card after t in
    simulating_after S stations links arrivals n xs h.now d.server t.old t.new t.moved.was t.same after t.moved.is (unlinked links d.packet) arrivals n
    (xs ++ Reach d.server d.packet d.time ∷ [])
    (reach_keeps S h.now.setup stations links arrivals n xs h.now.running d.server d.packet d.time k.next_one t.new own)
