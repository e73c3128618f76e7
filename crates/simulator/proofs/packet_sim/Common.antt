-- What is common to all steps of a simulation.
use Rattle.std.specs.Prelude.{Some, ◌≡◌, ℕ, ◌<◌, List, length, map, set, slice_get}
use Rattle.std.proofs.Common.{sym, ap, ◌∙◌, subst, inl, inr, arith}
use Rattle.std.proofs.lemmas.Bool.{cases_eq}
use Rattle.std.proofs.lemmas.Option.{slice_get_within}
use Rattle.rational.specs.Rational.{ℚ}
use Rattle.run_laws.specs.declared.steps.Step.{Step}
use Rattle.run_laws.specs.Routes.{route_of}
use Rattle.run_laws.specs.Views.{Entry, entry_of, hops_of}
use Rattle.queue_sched.specs.index_links.Chains.{Chains}
use Rattle.net_model.specs.declared.trace.TracePacket.{TracePacket}
use Rattle.net_model.specs.stated_runs.Setups.{Entering, Setup, packet_of}
use Rattle.net_model.specs.stated_runs.DueSteps.{Rank, IsDue, step_time}
use Rattle.net_model.specs.stated_runs.FromTraces.{entering}
use Rattle.net_model.specs.stated_runs.Laws.{state_after}
use Rattle.net_model.specs.stated_runs.TimeGrids.{IsGateTime, AreStallTimes}
use Rattle.sim_servers.specs.declared.opening.Span.{Span}
use Rattle.sim_servers.specs.declared.station.Station.{Station}
use Rattle.sim_servers.specs.Openings.{stall_times, opening_for, IsSameOpening, OpeningRoom}
use Rattle.sim_servers.specs.declared.sim_states.arrival.Arrival.{Arrival}
use Rattle.sim_servers.specs.sim_states.Running.{IsRunning}
use Rattle.sim_servers.proofs.sim_states.Kept.{set_same, set_other}
use Rattle.sim_servers.proofs.sim_states.SoFar.{IsSound, sound_so_far}
use Rattle.simulator.specs.packet_sim.Simulating.{HaveStallTimes, IsSimulating}

pub rank_same : (k k' s s' p p' : ℕ) → k ≡ k' → s ≡ s' → p ≡ p'
    → (let z : Rank = record { kind = k; server = s; packet = p } in z) ≡ record { kind = k'; server = s'; packet = p' }
rank_same k k' s s' p p' a b c =
    ap (λ x. let z : Rank = record { kind = x; server = s; packet = p } in z) a
    ∙ ap (λ x. let z : Rank = record { kind = k'; server = x; packet = p } in z) b
    ∙ ap (λ x. let z : Rank = record { kind = k'; server = s'; packet = x } in z) c

pub sound_at : (S : Setup) (stations : List Station) (links : Chains) (arrivals : List Arrival) (n : ℕ) (xs : List Step)
    → IsSimulating S stations links arrivals n xs → IsSound S (state_after S xs)
sound_at S stations links arrivals n xs h = sound_so_far S h.setup xs h.running.followed

-- ---- stalls
pub stalls_after : (D : ℕ) (E : ℚ) (stations : List Station) (s : ℕ) (old new : Station) → HaveStallTimes D E stations → slice_get stations s ≡ Some old
    → IsSameOpening old.opening new.opening → HaveStallTimes D E (set stations s new)
stalls_after D E stations s old new h at same = λ k x e. elim (cases_eq k s) [
  | inl i ↦
      let f : Some new ≡ Some x = sym (set_same stations s new (slice_get_within stations s old at)) ∙ ap (slice_get (set stations s new)) (sym i) ∙ e in
      let g : new ≡ x = cc in
      subst (λ (y : Station). AreStallTimes D E (opening_for y.opening).stalls) g
      (subst (λ (v : List Span). AreStallTimes D E (map stall_times v)) (sym same.stalls) (h s old at))
  | inr n ↦ h k x (sym (set_other stations s k new n) ∙ e)
]

pub simulating_after : (S : Setup) (stations : List Station) (links : Chains) (arrivals : List Arrival) (n : ℕ) (xs : List Step)
    → (h : IsSimulating S stations links arrivals n xs) (s : ℕ) (old new : Station) → slice_get stations s ≡ Some old → IsSameOpening old.opening new.opening
    → (after : List Station) → after ≡ set stations s new → (links' : Chains) (arrivals' : List Arrival) (n' : ℕ) (xs' : List Step)
    → IsRunning S (set stations s new) links' arrivals' n' xs' → IsSimulating S after links' arrivals' n' xs'
simulating_after S stations links arrivals n xs h s old new at same after is links' arrivals' n' xs' k = record {
  setup = h.setup;
  few = h.few;
  few_servers = h.few_servers;
  grid = h.grid;
  most = h.most;
  fits = h.fits;
  stalls = subst (HaveStallTimes h.grid h.most) (sym is) (stalls_after h.grid h.most stations s old new h.stalls at same);
  running = subst (λ ys. IsRunning S ys links' arrivals' n' xs') (sym is) k;
}

-- the arithmetic of the opening at the time of a step that is due
pub room_at : (S : Setup) (stations : List Station) (links : Chains) (arrivals : List Arrival) (n : ℕ) (xs : List Step)
    → IsSimulating S stations links arrivals n xs → (y : Step) → IsDue S (state_after S xs) y → (s : ℕ) (x : Station) → slice_get stations s ≡ Some x
    → OpeningRoom (opening_for x.opening) (step_time y)
room_at S stations links arrivals n xs h y due s x at =
    let k = h.running.servers.kept s x at in
    record {
      grid = h.grid;
      most = h.most;
      room = h.fits.grid.room;
      gate = subst (λ g. IsGateTime h.grid h.most g) (sym k.opening.gate) (h.fits.grid.gates s);
      stalls = h.stalls s x at;
      time = h.fits.due xs h.running.followed y due;
    }

-- ---- packets that have entered
pub record HasEntered (S : Setup) (entered : List Entry) (p : ℕ) (e : TracePacket) : Type 0 where
  pub hops : hops_of S.net entered p ≡ (route_of S.net e.flow).hops
  pub bits : (entry_of entered p).bits ≡ e.bits

pub has_entered : (S : Setup) (stations : List Station) (links : Chains) (arrivals : List Arrival) (n : ℕ) (xs : List Step)
    → IsSimulating S stations links arrivals n xs → (p : ℕ) → p < length (state_after S xs).entered → (e : TracePacket) → packet_of S p ≡ entering e
    → HasEntered S (state_after S xs).entered p e
has_entered S stations links arrivals n xs h p l e is =
    let entry = h.running.entries p (let k = h.running.entered_is in omega (arith, l, k)) in
    record {
      hops = ap (λ (x : Entry). (route_of S.net x.flow).hops) entry ∙ ap (λ (x : Entering). (route_of S.net x.flow).hops) is;
      bits = ap (λ (x : Entry). x.bits) entry ∙ ap (λ (x : Entering). x.bits) is;
    }

pub in_trace_of : (S : Setup) (stations : List Station) (links : Chains) (arrivals : List Arrival) (n : ℕ) (xs : List Step)
    → IsSimulating S stations links arrivals n xs → (p : ℕ) → p < length (state_after S xs).entered → p < length S.packets
in_trace_of S stations links arrivals n xs h p l =
    let a = h.running.entered_is in
    let b = h.running.few in
    omega (arith, l, a, b)
