-- The state of the simulator between two steps, and what it takes for due.
use Rattle.std.specs.Prelude.{Option, Some, None, ◌≡◌, ◌⊎◌, ℕ, pos, ◌<◌, ◌≤◌, List, [], ◌∷◌, length, get_or, slice_get}
use Rattle.rational.specs.Rational.{ℚ, int, ◌+ℚ◌, ◌≤ℚ◌, ◌<ℚ◌}
use Rattle.run_laws.specs.declared.steps.Step.{Step}
use Rattle.run_laws.specs.Servers.{Under, ServerState}
use Rattle.run_laws.specs.Routes.{link_at}
use Rattle.run_laws.specs.Views.{entry_of}
use Rattle.run_laws.specs.Lawful as lawful
use Rattle.run_laws.specs.Lawful.{RunState, state_at, run_start}
use Rattle.queue_sched.specs.index_links.Chains.{Chains, list_at, Has, first_of}
use Rattle.net_model.specs.stated_runs.Setups.{Entering, Setup, packet_of}
use Rattle.net_model.specs.stated_runs.DueSteps.{RankAtMost, rank_of, step_time}
use Rattle.net_model.specs.stated_runs.Simulated.{FollowsSoFar}
use Rattle.net_model.specs.stated_runs.Laws.{state_after}
use Rattle.run_laws.specs.Members.{Has as In}
use Rattle.sim_servers.specs.sim_states.Places.{ArePlaced}
use Rattle.sim_servers.specs.declared.due.Due.{Due}
use Rattle.sim_servers.specs.declared.due.DueKind.TheVariants as kinds
use Rattle.sim_servers.specs.declared.station.Station.{Station}
use Rattle.sim_servers.specs.Queues.{room_of}
use Rattle.sim_servers.specs.Firsts.{place_of, IsNoLater}
use Rattle.sim_servers.specs.Stations.{IsStation, due_for}
use Rattle.sim_servers.specs.declared.sim_states.arrival.Arrival.{Arrival}

-- ---- packets on links
abbrev pub arrival_at : List Arrival → ℕ → Arrival
arrival_at arrivals p = get_or arrivals p record { server = 0; time = int (pos 0) }

abbrev pub due_at : List Arrival → ℕ → lawful.Due
due_at arrivals p = record { packet = p; server = (arrival_at arrivals p).server; time = (arrival_at arrivals p).time }

-- each reaches its server before those behind it
abbrev pub AreRising : List Arrival → List ℕ → Type 0
AreRising arrivals [] = Unit {0}
AreRising arrivals (p ∷ ps) = ((q : ℕ) → Has ps q → (arrival_at arrivals p).time <ℚ (arrival_at arrivals q).time)
    × AreRising arrivals ps

-- at time t, a packet that left server s is no later at its next server than one that leaves from now on
pub record IsAheadOf (S : Setup) (s : ℕ) (σ : ServerState) (t : ℚ) : Type 0 where
  pub by : t ≤ℚ σ.busy +ℚ link_at S.net s
  pub before : (u : Under) → σ.under ≡ Some u → t <ℚ σ.busy +ℚ link_at S.net s

-- list s has the packets on the link of server s, in the order in which they come; all that is due to reach a server
-- is there
pub record AreLinks (S : Setup) (r : RunState) (links : Chains) (arrivals : List Arrival) : Type 0 where
  pub lists : length links.lists ≡ length S.net.servers
  pub nodes : links.nodes ≡ length S.packets
  pub long : length arrivals ≡ length S.packets
  pub on_way : (s p : ℕ) → Has (list_at links s) p → In r.due (due_at arrivals p)
  pub linked : (d : lawful.Due) → In r.due d → (s : ℕ) × Has (list_at links s) d.packet × (due_at arrivals d.packet ≡ d)
  pub rising : (s : ℕ) → AreRising arrivals (list_at links s)
  pub ahead : (s p : ℕ) → Has (list_at links s) p → IsAheadOf S s (state_at r s) (arrival_at arrivals p).time

-- ---- servers
pub record AreStations (S : Setup) (r : RunState) (stations : List Station) : Type 0 where
  pub many : length stations ≡ length S.net.servers
  pub kept : (s : ℕ) (x : Station) → slice_get stations s ≡ Some x → IsStation S s (state_at r s) x
  pub rooms : (s : ℕ) (x : Station) → slice_get stations s ≡ Some x → room_of x.queues ≡ length S.packets

-- ---- the whole
pub record IsRunning (S : Setup) (stations : List Station) (links : Chains) (arrivals : List Arrival) (entered : ℕ)
    (steps : List Step) : Type 0 where
  pub followed : FollowsSoFar S (run_start S.net) steps
  pub servers : AreStations S (state_after S steps) stations
  pub on_links : AreLinks S (state_after S steps) links arrivals
  pub entered_is : entered ≡ length (state_after S steps).entered
  pub few : entered ≤ length S.packets
  pub entries : (p : ℕ) → p < entered
      → entry_of (state_after S steps).entered p ≡ record { flow = (packet_of S p).flow; bits = (packet_of S p).bits }
  pub placed : ArePlaced (state_after S steps)

-- ---- what is due
-- the next packet of the trace
abbrev pub enter_first : Option Entering → ℕ → Option Due
enter_first None n = None
enter_first (Some e) n = Some record { time = e.time; kind = kinds.Enter; server = 0; packet = n }

-- the first packet on a link
abbrev pub reach_first : List Arrival → Option ℕ → Option Due
reach_first arrivals None = None
reach_first arrivals (Some p) =
    Some record {
      time = (arrival_at arrivals p).time;
      kind = kinds.Reach;
      server = (arrival_at arrivals p).server;
      packet = p;
    }

-- the step at a server
abbrev pub station_due : Option Station → ℕ → Option Due
station_due None s = None
station_due (Some x) s = due_for x.next s

-- d is one of these, of the first k servers
abbrev pub IsCandidate : Setup → List Station → Chains → List Arrival → ℕ → ℕ → Due → Type 0
IsCandidate S stations links arrivals entered k d =
    (enter_first (slice_get S.packets entered) entered ≡ Some d)
    ⊎ ((s : ℕ) × (s < k) × ((station_due (slice_get stations s) s ≡ Some d)
    ⊎ (reach_first arrivals (first_of (list_at links s)) ≡ Some d)))

-- the first of them; none where there is none
abbrev pub IsFirstCandidate : Setup → List Station → Chains → List Arrival → ℕ → ℕ → Option Due → Type 0
IsFirstCandidate S stations links arrivals entered k None = (d : Due)
    → ¬ (IsCandidate S stations links arrivals entered k d)
IsFirstCandidate S stations links arrivals entered k (Some d) =
    IsCandidate S stations links arrivals entered k d
    × ((e : Due) → IsCandidate S stations links arrivals entered k e → IsNoLater d e)

-- the due step y does not come before d
pub record IsNotAfter (r : RunState) (d : Due) (y : Step) : Type 0 where
  pub time : d.time ≤ℚ step_time y
  pub in_turn : d.time ≡ step_time y → RankAtMost (place_of d) (rank_of r y)
