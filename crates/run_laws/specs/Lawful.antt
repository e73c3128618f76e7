-- Which runs of a network are lawful. (Non-preemptive disciplines; deficit round robin is Shreedhar and Varghese's.)
use Rattle.std.specs.Prelude.{Option, Some, None, ◌≡◌, ℕ, ◌<◌, Bool, true, ◌&&◌, ◌==◌, List, [], ◌∷◌, ◌++◌, length, get_or, set, map, Contains, All, if◌then◌else◌}
use Rattle.rational.specs.Rational.{ℚ, le_q, ◌+ℚ◌, ◌<ℚ◌}
use Rattle.run_laws.specs.declared.steps.Step.{Step}
use Rattle.run_laws.specs.declared.steps.Step.TheVariants.{Enter, Reach, Work, Leave, Visit}
use Rattle.run_laws.specs.Runs.{SpecRun}
use Rattle.run_laws.specs.Servers.{Fifo, ServerState, start}
use Rattle.run_laws.specs.Next.{next}
use Rattle.run_laws.specs.Allows.{Allows, IsComplete}
use Rattle.run_laws.specs.Routes.{Routes, server_at, link_at, route_of, PassesServer, first_server, first_of, server_after}
use Rattle.run_laws.specs.Views.{Entry, hops_of, entered_after, server_of, seen}

-- a packet on a link, with the time at which it reaches the server
pub record Due : Type 0 where
  pub packet : ℕ
  pub server : ℕ
  pub time : ℚ

-- between two steps: the packets that have entered, each server's state, and the packets on links
pub record RunState : Type 0 where
  pub entered : List Entry
  pub servers : List ServerState
  pub due : List Due

-- ---- the state after a step
-- one packet, one server, one time
abbrev pub same_due : Due → Due → Bool
same_due d e = (d.packet == e.packet) && ((d.server == e.server) && (le_q d.time e.time && le_q e.time d.time))

-- one such entry less
abbrev pub without : Due → List Due → List Due
without d [] = []
without d (e ∷ es) = if same_due d e then es else e ∷ without d es

-- a packet that left is due at the next server, if there is one
abbrev pub sent : Option ℕ → ℕ → ℚ → List Due → List Due
sent None p t due = due
sent (Some s) p t due = due ++ record { packet = p; server = s; time = t } ∷ []

-- a packet that leaves is due a link later, and is due no more when it reaches the server
abbrev pub next_due : Routes → RunState → Step → List Due
next_due net r (Enter f p t b) = r.due
next_due net r (Reach s p t) = without record { packet = p; server = s; time = t } r.due
next_due net r (Work s p a b w) = r.due
next_due net r (Leave s p t) = sent (server_after s (hops_of net r.entered p)) p (t +ℚ link_at net s) r.due
next_due net r (Visit s q t) = r.due

-- the state of server s
abbrev pub state_at : RunState → ℕ → ServerState
state_at r s = get_or r.servers s (start Fifo)

-- the state after a step: that of its server changes, and no other
abbrev pub next_run : Routes → RunState → Step → RunState
next_run net r x =
    let s = server_of net x in
    record {
      entered = entered_after r.entered x;
      servers = set r.servers s (next (server_at net s).discipline (state_at r s) (seen net r.entered x));
      due = next_due net r x;
    }

-- at first nothing has entered
abbrev pub run_start : Routes → RunState
run_start net = record { entered = []; servers = map (λ s. start s.discipline) net.servers; due = [] }

-- the state after several steps
abbrev pub after_run : Routes → RunState → List Step → RunState
after_run net r [] = r
after_run net r (x ∷ xs) = after_run net (next_run net r x) xs

-- ---- when a step may come
-- packets are numbered in the order in which they enter, and enter on live flows
pub record MayEnter (net : Routes) (r : RunState) (flow packet : ℕ) : Type 0 where
  pub in_turn : packet ≡ length r.entered
  pub is_live : (route_of net flow).live ≡ true
  pub has_path : first_of (route_of net flow).hops ≡ Some (first_server (route_of net flow).hops)

-- the packet has entered, and its path has the server
pub record IsThere (net : Routes) (r : RunState) (s p : ℕ) : Type 0 where
  pub has_entered : p < length r.entered
  pub passes : PassesServer s (hops_of net r.entered p)

-- a packet reaches a server only where it is due there, at that very time
abbrev pub IsKnown : Routes → RunState → Step → Type 0
IsKnown net r (Enter f p t b) = MayEnter net r f p
IsKnown net r (Reach s p t) = Contains r.due record { packet = p; server = s; time = t }
IsKnown net r (Work s p a b w) = IsThere net r s p
IsKnown net r (Leave s p t) = IsThere net r s p
IsKnown net r (Visit s q t) = Unit {0}

-- and its server allows it
pub record AllowsInRun (net : Routes) (end : ℚ) (r : RunState) (x : Step) : Type 0 where
  pub known : IsKnown net r x
  pub known_server : server_of net x < length net.servers
  pub at_server : Allows (server_at net (server_of net x)) end (state_at r (server_of net x)) (seen net r.entered x)

-- each step is allowed after those before it
abbrev pub AllAllowedInRun : Routes → ℚ → RunState → List Step → Type 0
AllAllowedInRun net end r [] = Unit {0}
AllAllowedInRun net end r (x ∷ xs) = AllowsInRun net end r x × AllAllowedInRun net end (next_run net r x) xs

-- at the end no packet that is worked off is still inside, and none on a link should have come
pub record IsLawful (net : Routes) (run : SpecRun) : Type 0 where
  pub allowed : AllAllowedInRun net run.end (run_start net) run.steps
  pub none_complete : All (λ s. ¬ IsComplete s.under) (after_run net (run_start net) run.steps).servers
  pub none_overdue : All (λ d. run.end <ℚ d.time) (after_run net (run_start net) run.steps).due
