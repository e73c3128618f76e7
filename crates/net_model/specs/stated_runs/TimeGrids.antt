-- The numbers that a simulation meets: times that are multiples of 1 / D, from 0 up to E. (Own choice.)
use Rattle.std.specs.Prelude.{Option, Some, None, ◌≡◌, ℕ, pos, ◌<◌, ◌≤◌, ◌-◌, ◌^◌, List, [], ◌∷◌, length}
use Rattle.rational.specs.Rational.{ℚ, int, ◌-ℚ◌, ◌*ℚ◌, ◌/ℚ◌, ◌≤ℚ◌}
use Rattle.rational.specs.Grid.{Whole}
use Rattle.rational.specs.Ratio.{IsSmall}
use Rattle.run_laws.specs.declared.steps.Step.{Step}
use Rattle.run_laws.specs.declared.steps.Step.TheVariants.{Work}
use Rattle.run_laws.specs.Cards.{whole, size}
use Rattle.run_laws.specs.Servers.{Under, done}
use Rattle.run_laws.specs.Routes.{PassesServer, link_at, route_of}
use Rattle.run_laws.specs.Lawful.{state_at, run_start}
use Rattle.net_model.specs.stated_runs.Setups.{GateTimes, StallTimes, Setup, opening_of, rate_of, packet_of}
use Rattle.net_model.specs.stated_runs.DueSteps.{IsDue, step_time}
use Rattle.net_model.specs.stated_runs.Simulated.{FollowsSoFar}
use Rattle.net_model.specs.stated_runs.Laws.{state_after}

-- sums of several of them have parts of at most 127 bits
pub record HasRoom (D : ℕ) (E : ℚ) : Type 0 where
  pub some : 0 < D
  pub small : D ≤ 2 ^ 127 - 1
  pub from_zero : int (pos 0) ≤ℚ E
  pub room : (int (pos 8) *ℚ E) *ℚ int (pos D) ≤ℚ int (pos (2 ^ 127 - 1))

-- t is one of them
pub record IsTime (D : ℕ) (E t : ℚ) : Type 0 where
  pub on_grid : Whole D t
  pub from_zero : int (pos 0) ≤ℚ t
  pub by : t ≤ℚ E

-- the times of a gate, and of stalls
abbrev pub IsGateTime : ℕ → ℚ → Option GateTimes → Type 0
IsGateTime D E None = Unit {0}
IsGateTime D E (Some g) = IsTime D E g.cycle × IsTime D E g.slot

abbrev pub AreStallTimes : ℕ → ℚ → List StallTimes → Type 0
AreStallTimes D E [] = Unit {0}
AreStallTimes D E (x ∷ xs) = (IsTime D E x.start × IsTime D E x.end) × AreStallTimes D E xs

-- what a setup gives is of them; and what a server works in such a time has parts of at most 127 bits
pub record IsOnGrid (S : Setup) (D : ℕ) (E : ℚ) : Type 0 where
  pub room : HasRoom D E
  pub packets : (p : ℕ) → p < length S.packets → IsTime D E (packet_of S p).time
  pub stalls : (s : ℕ) → AreStallTimes D E (opening_of S s).stalls
  pub gates : (s : ℕ) → IsGateTime D E (opening_of S s).gate
  pub links : (s : ℕ) → IsTime D E (link_at S.net s)
  pub times : (s p : ℕ) → p < length S.packets → PassesServer s (route_of S.net (packet_of S p).flow).hops
      → IsTime D E (whole (packet_of S p).bits /ℚ rate_of S s)
  pub works : (s : ℕ) (x : ℚ) → s < length S.net.servers → IsTime D E x → IsSmall (rate_of S s *ℚ x)

-- and so is what its stated run meets: the time of each step that is due, the end of each work that is, and how long
-- the packet under way is yet to be worked on
pub record RunFits (S : Setup) (D : ℕ) (E : ℚ) : Type 0 where
  pub grid : IsOnGrid S D E
  pub due : (steps : List Step) → FollowsSoFar S (run_start S.net) steps → (y : Step)
      → IsDue S (state_after S steps) y → IsTime D E (step_time y)
  pub ends : (steps : List Step) → FollowsSoFar S (run_start S.net) steps → (s p : ℕ) (a b w : ℚ)
      → IsDue S (state_after S steps) (Work s p a b w)
      → IsTime D E b
  pub left : (steps : List Step) → FollowsSoFar S (run_start S.net) steps → (s : ℕ) → s < length S.net.servers
      → (u : Under)
      → (state_at (state_after S steps) s).under ≡ Some u → IsTime D E ((size u.card -ℚ done u) /ℚ rate_of S s)
