-- Steps in which a packet leaves a server.
use Rattle.std.specs.Prelude.{Some, None, ◌≡◌, ℕ, ◌<◌, List, [], ◌∷◌, ◌++◌, length, set, slice_get}
use Rattle.std.proofs.Common.{refl, sym, ap, ◌∙◌, subst, arith}
use Rattle.rational.specs.Rational.{ℚ, ◌+ℚ◌}
use Rattle.rational.specs.Ratio.{SumFits}
use Rattle.run_laws.specs.declared.steps.Step.{Step}
use Rattle.run_laws.specs.declared.steps.Step.TheVariants as steps
use Rattle.run_laws.specs.Cards.{Leaves}
use Rattle.run_laws.specs.Next.{next}
use Rattle.run_laws.specs.Routes.{Hop, server_at, link_at, route_of, server_after}
use Rattle.run_laws.specs.Views.{card_of}
use Rattle.run_laws.specs.Lawful.{state_at}
use Rattle.queue_sched.specs.index_links.Chains.{Chains, IsFree, list_at, with_list}
use Rattle.net_model.specs.declared.trace.TracePacket.{TracePacket}
use Rattle.net_model.specs.stated_runs.Setups.{Setup, packet_of}
use Rattle.net_model.specs.stated_runs.FromTraces.{entering}
use Rattle.net_model.specs.stated_runs.Simulated.{IsNext}
use Rattle.net_model.specs.stated_runs.Laws.{state_after}
use Rattle.sim_servers.specs.declared.due.Due.{Due}
use Rattle.sim_servers.specs.declared.due.DueKind.TheVariants as kinds
use Rattle.sim_servers.specs.declared.station.Next.{Next}
use Rattle.sim_servers.specs.declared.station.Next.TheVariants.{Leave}
use Rattle.sim_servers.specs.declared.station.Station.{Station}
use Rattle.sim_servers.specs.Openings.{opening_for, OpeningRoom}
use Rattle.sim_servers.specs.Firsts.{kind_number}
use Rattle.sim_servers.specs.Stations.{IsStation, IsNextOf, WillLeave, MayLose}
use Rattle.sim_servers.proofs.GridSteps.{sum_fits}
use Rattle.sim_servers.specs.declared.sim_states.arrival.Arrival.{Arrival}
use Rattle.sim_servers.specs.sim_states.Laws.{IsAfter}
use Rattle.sim_servers.proofs.sim_states.Firsts.{first_is_next}
use Rattle.sim_servers.proofs.sim_states.Steps.{step_at, going, leave_keeps, last_leave_keeps}
use Rattle.sim_servers.specs.sim_loop.Moves.{HasLost}
use Rattle.simulator.specs.packet_sim.Simulating.{IsSimulating, IsFirstDue}
use Rattle.simulator.proofs.packet_sim.Candidates.{at_station, leaving}
use Rattle.simulator.proofs.packet_sim.Common.{rank_same, sound_at, simulating_after, room_at, has_entered, in_trace_of}

-- ---- what is due
record IsLeavingNow (S : Setup) (stations : List Station) (xs : List Step) (d : Due) : Type 0 where
  station : Station
  known : d.server < length S.net.servers
  at : slice_get stations d.server ≡ Some station
  keeps : IsStation S d.server (state_at (state_after S xs) d.server) station
  packet : ℕ
  is : station.next ≡ Leave packet d.time
  will : WillLeave (state_at (state_after S xs) d.server) station.opening packet d.time
  next_one : IsNext S (state_after S xs) (steps.Leave d.server packet d.time)

leaving_now : (S : Setup) (stations : List Station) (links : Chains) (arrivals : List Arrival) (n : ℕ) (xs : List Step) (d : Due)
    → IsFirstDue S stations links arrivals n xs d → d.kind ≡ kinds.Leave → IsLeavingNow S stations xs d
leaving_now S stations links arrivals n xs d h kind =
    let r = state_after S xs in
    let a = at_station S stations links arrivals n (length S.net.servers) d h.first.0
    (λ e. let f : kinds.Leave ≡ kinds.Enter = sym kind ∙ e in cc) (λ e. let f : kinds.Leave ≡ kinds.Reach = sym kind ∙ e in cc) in
    let l = leaving a.station.next d a.due kind in
    let keeps = h.now.running.servers.kept d.server a.station a.at in
    let will : WillLeave (state_at r d.server) a.station.opening l.packet d.time =
    subst (λ (m : Next). IsNextOf S d.server (state_at r d.server) a.station.opening m) l.is keeps.next in
    record {
      station = a.station;
      known = a.known;
      at = a.at;
      keeps = keeps;
      packet = l.packet;
      is = l.is;
      will = will;
      next_one = first_is_next S h.now.setup stations links arrivals n xs d h.now.running h.first (steps.Leave d.server l.packet d.time)
          (a.known, record { under = will.under; is_under = will.is_under; packet_is = will.packet_is; worked_off = will.worked_off; at_end = will.at_end })
          refl (rank_same 1 (kind_number d.kind) d.server d.server 0 d.packet (sym (ap kind_number kind)) refl (sym l.part));
    }

-- ---- what the moves ask for
pub record MayLeaveAt (stations : List Station) (s : ℕ) (t : ℚ) : Type 0 where
  pub known : s < length stations
  pub lose : (x : Station) → slice_get stations s ≡ Some x → MayLose x t
  pub room : (x : Station) → slice_get stations s ≡ Some x → OpeningRoom (opening_for x.opening) t

pub leave_may : (S : Setup) (stations : List Station) (links : Chains) (arrivals : List Arrival) (n : ℕ) (xs : List Step) (d : Due)
    → IsFirstDue S stations links arrivals n xs d → d.kind ≡ kinds.Leave → MayLeaveAt stations d.server d.time
leave_may S stations links arrivals n xs d h kind =
    let r = state_after S xs in
    let k = leaving_now S stations links arrivals n xs d h kind in
    let x = steps.Leave d.server k.packet d.time in
    let time = h.now.fits.due xs h.now.running.followed x k.next_one.due in
    let many = h.now.running.servers.many in
    let there = k.known in
    record {
      known = omega (arith, there, many);
      lose = λ y at.
          let f : Some k.station ≡ Some y = sym k.at ∙ at in
          let same : k.station ≡ y = cc in
          record {
            setup = S;
            server = d.server;
            state = state_at r d.server;
            keeps = h.now.running.servers.kept d.server y at;
            packet = k.packet;
            due = subst (λ (z : Station). z.next ≡ Leave k.packet d.time) same k.is;
            from_zero = time.from_zero;
          };
      room = λ y at. room_at S stations links arrivals n xs h.now x k.next_one.due d.server y at;
    }

-- the time at which it comes over the link has room
pub link_fits : (S : Setup) (stations : List Station) (links : Chains) (arrivals : List Arrival) (n : ℕ) (xs : List Step) (d : Due)
    → IsFirstDue S stations links arrivals n xs d → d.kind ≡ kinds.Leave → (z : ℚ) → z ≡ link_at S.net d.server → SumFits d.time z
link_fits S stations links arrivals n xs d h kind z is =
    let k = leaving_now S stations links arrivals n xs d h kind in
    let time = h.now.fits.due xs h.now.running.followed (steps.Leave d.server k.packet d.time) k.next_one.due in
    subst (λ u. SumFits d.time u) (sym is)
    (sum_fits h.now.grid h.now.most d.time (link_at S.net d.server) h.now.fits.grid.room time (h.now.fits.grid.links d.server))

-- ---- after it has left
record HasLeft (S : Setup) (stations : List Station) (links : Chains) (xs : List Step) (d : Due) (p : ℕ) (new : Station) : Type 0 where
  next_one : IsNext S (state_after S xs) (steps.Leave d.server p d.time)
  own : IsAfter S xs (steps.Leave d.server p d.time) new
  entered_one : p < length (state_after S xs).entered
  free : IsFree links p

has_left : (S : Setup) (stations : List Station) (links : Chains) (arrivals : List Arrival) (n : ℕ) (xs : List Step) (d : Due)
    → IsFirstDue S stations links arrivals n xs d → d.kind ≡ kinds.Leave → (after : List Station) (p : ℕ) (l : HasLost stations after d.server d.time p)
    → HasLeft S stations links xs d p l.new
has_left S stations links arrivals n xs d h kind after p l =
    let r = state_after S xs in
    let σ = state_at r d.server in
    let k = leaving_now S stations links arrivals n xs d h kind in
    let u = k.will.under in
    let keeps = h.now.running.servers.kept d.server l.old l.moved.was in
    let lost = l.left S d.server σ u keeps k.will.is_under in
    let same : k.packet ≡ p = sym k.will.packet_is ∙ lost.0 in
    let n1 : IsNext S r (steps.Leave d.server p d.time) = subst (λ q. IsNext S r (steps.Leave d.server q d.time)) same k.next_one in
    let sound = sound_at S stations links arrivals n xs h.now in
    let at = step_at S h.now.setup r (steps.Leave d.server p d.time) sound n1 in
    let g = going S stations links arrivals n xs h.now.running sound d.server p d.time at n1.due.1 in
    let good = (sound.good.servers d.server k.known).under u k.will.is_under in
    let card : u.card ≡ card_of S.net r.entered p d.server = good.card.is ∙ ap (λ q. card_of S.net r.entered q d.server) lost.0 in
    record {
      next_one = n1;
      own = (
        subst (λ c. IsStation S d.server (next (server_at S.net d.server).discipline σ (Leaves c d.time)) l.new) card lost.1,
        l.moved.room ∙ h.now.running.servers.rooms d.server l.old l.moved.was,
      );
      entered_one = g.entered_one;
      free = g.free;
    }

pub record IsGone (S : Setup) (links : Chains) (p : ℕ) : Type 0 where
  pub in_trace : p < length S.packets
  pub nodes : p < links.nodes
  pub free : IsFree links p

pub leave_gone : (S : Setup) (stations : List Station) (links : Chains) (arrivals : List Arrival) (n : ℕ) (xs : List Step) (d : Due)
    → IsFirstDue S stations links arrivals n xs d → d.kind ≡ kinds.Leave → (after : List Station) (p : ℕ) → HasLost stations after d.server d.time p
    → IsGone S links p
leave_gone S stations links arrivals n xs d h kind after p l =
    let k = has_left S stations links arrivals n xs d h kind after p l in
    let here = in_trace_of S stations links arrivals n xs h.now p k.entered_one in
    let nodes = h.now.running.on_links.nodes in
    record { in_trace = here; nodes = omega (arith, here, nodes); free = k.free }

pub leave_list : (S : Setup) (stations : List Station) (links : Chains) (arrivals : List Arrival) (n : ℕ) (xs : List Step) (d : Due)
    → IsFirstDue S stations links arrivals n xs d → d.kind ≡ kinds.Leave → d.server < length links.lists
leave_list S stations links arrivals n xs d h kind =
    let k = (leaving_now S stations links arrivals n xs d h kind).known in
    let lists = h.now.running.on_links.lists in
    omega (arith, k, lists)

-- to another server
pub leave_done : (S : Setup) (stations : List Station) (links : Chains) (arrivals : List Arrival) (n : ℕ) (xs : List Step) (d : Due)
    → IsFirstDue S stations links arrivals n xs d → d.kind ≡ kinds.Leave → (after : List Station) (p : ℕ) → HasLost stations after d.server d.time p
    → (e : TracePacket) → packet_of S p ≡ entering e → (a : Arrival) → Some a.server ≡ server_after d.server (route_of S.net e.flow).hops
    → (z : ℚ) → z ≡ link_at S.net d.server → a.time ≡ d.time +ℚ z
    → IsSimulating S after (with_list links d.server (list_at links d.server ++ p ∷ [])) (set arrivals p a) n (xs ++ steps.Leave d.server p d.time ∷ [])
leave_done S stations links arrivals n xs d h kind after p l e is a goes z link time =
    let r = state_after S xs in
    let k = has_left S stations links arrivals n xs d h kind after p l in
    let seen_as = has_entered S stations links arrivals n xs h.now p k.entered_one e is in
    simulating_after S stations links arrivals n xs h.now d.server l.old l.new l.moved.was l.same after l.moved.is
    (with_list links d.server (list_at links d.server ++ p ∷ [])) (set arrivals p a) n (xs ++ steps.Leave d.server p d.time ∷ [])
    (leave_keeps S h.now.setup stations links arrivals n xs h.now.running d.server p d.time k.next_one l.new k.own a
    (ap (λ (hs : List Hop). server_after d.server hs) seen_as.hops ∙ sym goes) (time ∙ ap (λ u. d.time +ℚ u) link))

-- for good
pub leave_last : (S : Setup) (stations : List Station) (links : Chains) (arrivals : List Arrival) (n : ℕ) (xs : List Step) (d : Due)
    → IsFirstDue S stations links arrivals n xs d → d.kind ≡ kinds.Leave → (after : List Station) (p : ℕ) → HasLost stations after d.server d.time p
    → (e : TracePacket) → packet_of S p ≡ entering e → None ≡ server_after d.server (route_of S.net e.flow).hops
    → IsSimulating S after links arrivals n (xs ++ steps.Leave d.server p d.time ∷ [])
leave_last S stations links arrivals n xs d h kind after p l e is goes =
    let k = has_left S stations links arrivals n xs d h kind after p l in
    let seen_as = has_entered S stations links arrivals n xs h.now p k.entered_one e is in
    simulating_after S stations links arrivals n xs h.now d.server l.old l.new l.moved.was l.same after l.moved.is
    links arrivals n (xs ++ steps.Leave d.server p d.time ∷ [])
    (last_leave_keeps S h.now.setup stations links arrivals n xs h.now.running d.server p d.time k.next_one l.new k.own
    (ap (λ (hs : List Hop). server_after d.server hs) seen_as.hops ∙ sym goes))
