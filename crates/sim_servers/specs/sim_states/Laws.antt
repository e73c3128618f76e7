-- What the simulator's state is good for, and what keeps it.
use Rattle.std.specs.Prelude.{Some, None, ◌≡◌, ℕ, ◌+◌, List, [], ◌∷◌, ◌++◌, length, set, ◌<◌, ◌^◌, slice_get}
use Rattle.rational.specs.Rational.{ℚ, ◌+ℚ◌}
use Rattle.run_laws.specs.declared.steps.Step.{Step}
use Rattle.run_laws.specs.declared.steps.Step.TheVariants.{Enter, Reach, Work, Leave, Visit}
use Rattle.run_laws.specs.Next.{next}
use Rattle.run_laws.specs.Routes.{server_at, link_at, server_after, route_of, queue_at, first_server}
use Rattle.run_laws.specs.Views.{hops_of, server_of, seen}
use Rattle.run_laws.specs.Lawful.{state_at}
use Rattle.queue_sched.specs.index_links.Chains.{Chains, list_at, unlinked, with_list}
use Rattle.net_model.specs.stated_runs.Setups.{Setup, IsSetup}
use Rattle.net_model.specs.stated_runs.DueSteps.{IsDue, rank_of, step_time}
use Rattle.net_model.specs.stated_runs.Simulated.{IsNext}
use Rattle.net_model.specs.stated_runs.Laws.{state_after}
use Rattle.sim_servers.specs.declared.due.Due.{Due}
use Rattle.sim_servers.specs.declared.station.Station.{Station}
use Rattle.sim_servers.specs.Queues.{room_of}
use Rattle.sim_servers.specs.Firsts.{place_of}
use Rattle.sim_servers.specs.Stations.{IsStation, MayTake}
use Rattle.sim_servers.specs.declared.sim_states.arrival.Arrival.{Arrival}
use Rattle.sim_servers.specs.sim_states.Running.{IsRunning, IsFirstCandidate}

-- where nothing is taken for due, nothing is
abbrev pub NothingIsLeft : Type 0
NothingIsLeft = (S : Setup) → IsSetup S
    → (stations : List Station) (links : Chains) (arrivals : List Arrival) (n : ℕ) (xs : List Step)
    → IsRunning S stations links arrivals n xs
    → IsFirstCandidate S stations links arrivals n (length S.net.servers) None
    → (y : Step) → ¬ (IsDue S (state_after S xs) y)

-- a due step at the time and the place of the first of what is taken for due is next
abbrev pub FirstIsNext : Type 0
FirstIsNext = (S : Setup) → IsSetup S
    → (stations : List Station) (links : Chains) (arrivals : List Arrival) (n : ℕ) (xs : List Step) (d : Due)
    → IsRunning S stations links arrivals n xs
    → IsFirstCandidate S stations links arrivals n (length S.net.servers) (Some d)
    → (x : Step) → IsDue S (state_after S xs) x → step_time x ≡ d.time → rank_of (state_after S xs) x ≡ place_of d
    → IsNext S (state_after S xs) x

-- a station for the state of its server after a step
abbrev pub IsAfter : Setup → List Step → Step → Station → Type 0
IsAfter S xs x new = IsStation S (server_of S.net x)
    (next (server_at S.net (server_of S.net x)).discipline (state_at (state_after S xs) (server_of S.net x))
    (seen S.net (state_after S xs).entered x)) new
    × (room_of new.queues ≡ length S.packets)

-- a step that is next, with a station for its server after it, keeps the state: where a packet enters
abbrev pub EntriesKeep : Type 0
EntriesKeep = (S : Setup) → IsSetup S
    → (stations : List Station) (links : Chains) (arrivals : List Arrival) (n : ℕ) (xs : List Step)
    → IsRunning S stations links arrivals n xs → (f p : ℕ) (t : ℚ) (b : ℕ)
    → IsNext S (state_after S xs) (Enter f p t b) → (new : Station)
    → IsAfter S xs (Enter f p t b) new
    → IsRunning S (set stations (server_of S.net (Enter f p t b)) new) links arrivals (n + 1) (xs ++ Enter f p t b ∷ [])

-- where one reaches a server, and is taken off its link
abbrev pub ArrivalsKeep : Type 0
ArrivalsKeep = (S : Setup) → IsSetup S
    → (stations : List Station) (links : Chains) (arrivals : List Arrival) (n : ℕ) (xs : List Step)
    → IsRunning S stations links arrivals n xs → (s p : ℕ) (t : ℚ) → IsNext S (state_after S xs) (Reach s p t)
    → (new : Station)
    → IsAfter S xs (Reach s p t) new
    → IsRunning S (set stations s new) (unlinked links p) arrivals n (xs ++ Reach s p t ∷ [])

-- where a server works
abbrev pub WorkKeeps : Type 0
WorkKeeps = (S : Setup) → IsSetup S
    → (stations : List Station) (links : Chains) (arrivals : List Arrival) (n : ℕ) (xs : List Step)
    → IsRunning S stations links arrivals n xs → (s p : ℕ) (a b w : ℚ) → IsNext S (state_after S xs) (Work s p a b w)
    → (new : Station)
    → IsAfter S xs (Work s p a b w) new → IsRunning S (set stations s new) links arrivals n (xs ++ Work s p a b w ∷ [])

-- where it turns to a queue
abbrev pub VisitsKeep : Type 0
VisitsKeep = (S : Setup) → IsSetup S
    → (stations : List Station) (links : Chains) (arrivals : List Arrival) (n : ℕ) (xs : List Step)
    → IsRunning S stations links arrivals n xs → (s q : ℕ) (t : ℚ) → IsNext S (state_after S xs) (Visit s q t)
    → (new : Station)
    → IsAfter S xs (Visit s q t) new → IsRunning S (set stations s new) links arrivals n (xs ++ Visit s q t ∷ [])

-- where a packet leaves for another server, and is put on the link
abbrev pub DeparturesKeep : Type 0
DeparturesKeep = (S : Setup) → IsSetup S
    → (stations : List Station) (links : Chains) (arrivals : List Arrival) (n : ℕ) (xs : List Step)
    → IsRunning S stations links arrivals n xs → (s p : ℕ) (t : ℚ) → IsNext S (state_after S xs) (Leave s p t)
    → (new : Station)
    → IsAfter S xs (Leave s p t) new → (a : Arrival)
    → server_after s (hops_of S.net (state_after S xs).entered p) ≡ Some a.server
    → a.time ≡ t +ℚ link_at S.net s
    → IsRunning S (set stations s new) (with_list links s (list_at links s ++ p ∷ [])) (set arrivals p a) n
    (xs ++ Leave s p t ∷ [])

-- and where one leaves its last
abbrev pub LastDeparturesKeep : Type 0
LastDeparturesKeep = (S : Setup) → IsSetup S
    → (stations : List Station) (links : Chains) (arrivals : List Arrival) (n : ℕ) (xs : List Step)
    → IsRunning S stations links arrivals n xs → (s p : ℕ) (t : ℚ) → IsNext S (state_after S xs) (Leave s p t)
    → (new : Station)
    → IsAfter S xs (Leave s p t) new → server_after s (hops_of S.net (state_after S xs).entered p) ≡ None
    → IsRunning S (set stations s new) links arrivals n (xs ++ Leave s p t ∷ [])

-- ---- what a station asks for
-- a packet that enters next may be taken by the station of its flow's first server
abbrev pub EntriesMayBeTaken : Type 0
EntriesMayBeTaken = (S : Setup) → IsSetup S
    → (stations : List Station) (links : Chains) (arrivals : List Arrival) (n : ℕ) (xs : List Step)
    → IsRunning S stations links arrivals n xs → length S.packets < 2 ^ 31 → (f p : ℕ) (t : ℚ) (b : ℕ)
    → IsNext S (state_after S xs) (Enter f p t b)
    → (x : Station) → slice_get stations (first_server (route_of S.net f).hops) ≡ Some x
    → MayTake x p (queue_at (first_server (route_of S.net f).hops) (route_of S.net f).hops) t

-- and one that reaches a server next by that server's
abbrev pub ArrivalsMayBeTaken : Type 0
ArrivalsMayBeTaken = (S : Setup) → IsSetup S
    → (stations : List Station) (links : Chains) (arrivals : List Arrival) (n : ℕ) (xs : List Step)
    → IsRunning S stations links arrivals n xs → length S.packets < 2 ^ 31 → (s p : ℕ) (t : ℚ)
    → IsNext S (state_after S xs) (Reach s p t)
    → (x : Station) → slice_get stations s ≡ Some x
    → MayTake x p (queue_at s (hops_of S.net (state_after S xs).entered p)) t
