-- The times of the steps of a stated run, as far as it has come.
use Rattle.std.specs.Prelude.{Option, Some, None, ◌≡◌, ℕ, pos, ◌<◌, List, length}
use Rattle.std.specs.List.{AllByRecursion}
use Rattle.rational.specs.Rational.{ℚ, int, ◌+ℚ◌, ◌-ℚ◌, ◌/ℚ◌, ◌≤ℚ◌}
use Rattle.rational.specs.Grid.{Whole}
use Rattle.run_laws.specs.declared.steps.Step.{Step}
use Rattle.run_laws.specs.declared.steps.Step.TheVariants.{Enter, Reach, Work, Leave, Visit}
use Rattle.run_laws.specs.Cards.{whole, size}
use Rattle.run_laws.specs.Servers.{Under, done, done_so_far}
use Rattle.run_laws.specs.Routes.{link_at}
use Rattle.run_laws.specs.Views.{card_of}
use Rattle.run_laws.specs.Lawful.{RunState, state_at}
use Rattle.net_model.specs.stated_runs.Setups.{GateTimes, StallTimes, Setup, opening_of, rate_of, packet_of}
use Rattle.net_model.specs.stated_runs.DueSteps.{step_time}
use Rattle.net_model.specs.stated_runs.TimeGrids.{IsTime}
use Rattle.sim_bounds.specs.Horizons.{horizon}

-- the end of a step, which only work has apart from its time
abbrev pub end_time : Step → ℚ
end_time (Enter f p t b) = t
end_time (Reach s p t) = t
end_time (Work s p a b w) = b
end_time (Leave s p t) = t
end_time (Visit s q t) = t

-- how long the server would still work on the packet if it stayed open
abbrev pub time_left : Setup → RunState → ℕ → ℕ → ℚ
time_left S r s p = (size (card_of S.net r.entered p s) -ℚ done_so_far (state_at r s).under) /ℚ rate_of S s

-- the latest time that comes of a step: a packet that leaves is on its way for the link, and work would go on
abbrev pub far_time : Setup → RunState → Step → ℚ
far_time S r (Enter f p t b) = t
far_time S r (Reach s p t) = t
far_time S r (Work s p a b w) = a +ℚ time_left S r s p
far_time S r (Leave s p t) = t +ℚ link_at S.net s
far_time S r (Visit s q t) = t

-- no time of the step is below 0, or past the horizon
pub record IsTimely (S : Setup) (r : RunState) (y : Step) : Type 0 where
  pub from_zero : int (pos 0) ≤ℚ step_time y
  pub forward : step_time y ≤ℚ end_time y
  pub end_near : end_time y ≤ℚ far_time S r y
  pub in_time : far_time S r y ≤ℚ horizon S

-- ---- grids
abbrev pub IsGateWhole : ℕ → Option GateTimes → Type 0
IsGateWhole d None = Unit {0}
IsGateWhole d (Some g) = Whole d g.cycle × Whole d g.slot

abbrev pub AreStallsWhole : ℕ → List StallTimes → Type 0
AreStallsWhole d = AllByRecursion (λ x. Whole d x.start × Whole d x.end)

-- all times that a setup names are multiples of 1 / d, and so is the time for each number of bits
pub record IsGrid (S : Setup) (d : ℕ) : Type 0 where
  pub packets : (p : ℕ) → p < length S.packets → Whole d (packet_of S p).time
  pub links : (s : ℕ) → Whole d (link_at S.net s)
  pub gates : (s : ℕ) → IsGateWhole d (opening_of S s).gate
  pub stalls : (s : ℕ) → AreStallsWhole d (opening_of S s).stalls
  pub works : (s n : ℕ) → Whole d (whole n /ℚ rate_of S s)

-- and then all times of a step are
pub record IsStepOnGrid (S : Setup) (d : ℕ) (r : RunState) (y : Step) : Type 0 where
  pub time : Whole d (step_time y)
  pub end : Whole d (end_time y)
  pub far : Whole d (far_time S r y)

-- ---- the times that a state keeps: of the last step and the last work at each server, and how long the packet under way
-- is yet to be worked on
pub record HasTimes (S : Setup) (d : ℕ) (r : RunState) : Type 0 where
  pub now : (s : ℕ) → s < length S.net.servers → IsTime d (horizon S) (state_at r s).now
  pub last_end : (s : ℕ) → s < length S.net.servers → (u : Under) → (state_at r s).under ≡ Some u
      → IsTime d (horizon S) u.last.end
  pub left : (s : ℕ) → s < length S.net.servers → (u : Under) → (state_at r s).under ≡ Some u
      → IsTime d (horizon S) ((size u.card -ℚ done u) /ℚ rate_of S s)
