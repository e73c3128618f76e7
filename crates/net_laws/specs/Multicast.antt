-- Multicast: runs in which a packet that leaves a server is due, a link later, at each of several next ones. All else
-- is as in a lawful run over paths: what is recorded, what a server sees, when it allows a step, and what each step
-- makes of it. (As the virtual links of ARINC 664, part 7, which go to several destinations; own choice.)
use Rattle.std.specs.Prelude.{Option, Some, None, ℕ, ◌==◌, List, [], ◌∷◌, ◌++◌, set, All}
use Rattle.rational.specs.Rational.{ℚ, ◌+ℚ◌, ◌-ℚ◌, ◌<ℚ◌}
use Rattle.run_laws.specs.Delays.{kept}
use Rattle.run_laws.specs.FlowDelays.{delivered_at}
use Rattle.run_laws.specs.declared.steps.Step.{Step}
use Rattle.run_laws.specs.declared.steps.Step.TheVariants.{Enter, Reach, Work, Leave, Visit}
use Rattle.run_laws.specs.Runs.{SpecRun}
use Rattle.run_laws.specs.Next.{next}
use Rattle.run_laws.specs.Allows.{IsComplete}
use Rattle.run_laws.specs.Routes.{Routes, server_at, link_at, route_of, server_after}
use Rattle.run_laws.specs.Views.{entry_of, entered_after, server_of, seen}
use Rattle.run_laws.specs.Lawful.{Due, RunState, without, state_at, AllowsInRun, run_start, IsLawful}

-- for each flow and each server, the servers to which a packet of the flow goes from there
abbrev pub NextServers : Type 0
NextServers = ℕ → ℕ → List ℕ

-- ---- the state after a step
-- a packet that left is due at each of these servers
abbrev pub sent_to : List ℕ → ℕ → ℚ → List Due → List Due
sent_to [] p t due = due
sent_to (s ∷ ss) p t due = sent_to ss p t (due ++ record { packet = p; server = s; time = t } ∷ [])

abbrev pub next_due_by : Routes → NextServers → RunState → Step → List Due
next_due_by net to r (Enter f p t b) = r.due
next_due_by net to r (Reach s p t) = without record { packet = p; server = s; time = t } r.due
next_due_by net to r (Work s p a b w) = r.due
next_due_by net to r (Leave s p t) = sent_to (to (entry_of r.entered p).flow s) p (t +ℚ link_at net s) r.due
next_due_by net to r (Visit s q t) = r.due

abbrev pub next_run_by : Routes → NextServers → RunState → Step → RunState
next_run_by net to r x =
    let s = server_of net x in
    record {
      entered = entered_after r.entered x;
      servers = set r.servers s (next (server_at net s).discipline (state_at r s) (seen net r.entered x));
      due = next_due_by net to r x;
    }

-- the state after several steps
abbrev pub after_run_by : Routes → NextServers → RunState → List Step → RunState
after_run_by net to r [] = r
after_run_by net to r (x ∷ xs) = after_run_by net to (next_run_by net to r x) xs

-- each step is allowed after those before it
abbrev pub AllAllowedBy : Routes → NextServers → ℚ → RunState → List Step → Type 0
AllAllowedBy net to end r [] = Unit {0}
AllAllowedBy net to end r (x ∷ xs) = AllowsInRun net end r x × AllAllowedBy net to end (next_run_by net to r x) xs

-- at the end no packet that is worked off is still inside, and none on a link should have come
pub record IsLawfulBy (net : Routes) (to : NextServers) (run : SpecRun) : Type 0 where
  pub allowed : AllAllowedBy net to run.end (run_start net) run.steps
  pub none_complete : All (λ s. ¬ IsComplete s.under) (after_run_by net to (run_start net) run.steps).servers
  pub none_overdue : All (λ d. run.end <ℚ d.time) (after_run_by net to (run_start net) run.steps).due

-- ---- paths, as the case of at most one next server
abbrev pub listed : Option ℕ → List ℕ
listed None = []
listed (Some s) = s ∷ []

abbrev pub path_next_servers : Routes → NextServers
path_next_servers net i s = listed (server_after s (route_of net i).hops)

-- a run is lawful over paths where it is lawful in this sense with their next servers, and only there
pub record IsSameRun (net : Routes) (run : SpecRun) : Type 0 where
  pub of_path : IsLawful net run → IsLawfulBy net (path_next_servers net) run
  pub of_multicast : IsLawfulBy net (path_next_servers net) run → IsLawful net run

abbrev pub PathRunsAreMulticast : Type 0
PathRunsAreMulticast = (net : Routes) (run : SpecRun) → IsSameRun net run

-- ---- delays
-- of the packets that enter among these steps: when they have left server s and passed its link, or the end of the run
-- where they do not leave it, less when they entered
abbrev pub delays_to_from : Routes → ℕ → ℕ → ℚ → List Step → List ℚ
delays_to_from net flow s end [] = []
delays_to_from net flow s end (Enter f p t b ∷ xs) =
    kept (f == flow) (delivered_at net end s p xs -ℚ t) (delays_to_from net flow s end xs)
delays_to_from net flow s end (Reach r q t ∷ xs) = delays_to_from net flow s end xs
delays_to_from net flow s end (Work r q a b w ∷ xs) = delays_to_from net flow s end xs
delays_to_from net flow s end (Leave r q t ∷ xs) = delays_to_from net flow s end xs
delays_to_from net flow s end (Visit r q t ∷ xs) = delays_to_from net flow s end xs
