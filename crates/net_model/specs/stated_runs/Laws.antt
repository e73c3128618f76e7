-- What is promised of stated runs.
use Rattle.std.specs.Prelude.{◌≡◌, ◌≢◌, ◌⊎◌, ℕ, ◌<◌, List, [], ◌∷◌, ◌++◌, length, None, Contains, pos}
use Rattle.rational.specs.Rational.{ℚ, int, ◌≤ℚ◌}
use Rattle.run_laws.specs.declared.steps.Step.{Step}
use Rattle.run_laws.specs.declared.steps.Step.TheVariants.{Enter, Reach, Work, Leave, Visit}
use Rattle.run_laws.specs.Runs.{SpecRun}
use Rattle.run_laws.specs.Routes.{Routes, route_of, last_server}
use Rattle.run_laws.specs.Views.{server_of}
use Rattle.run_laws.specs.Lawful.{IsLawful, RunState, state_at, after_run, run_start}
use Rattle.net_model.specs.stated_runs.Setups.{Setup, IsSetup, IsFirstOpen, packet_of}
use Rattle.net_model.specs.stated_runs.DueSteps.{step_time}
use Rattle.net_model.specs.stated_runs.Simulated.{IsSimulated}

-- the stated run is a lawful run of its network
abbrev pub StatedRunsAreLawful : Type 0
StatedRunsAreLawful = (S : Setup) (run : SpecRun) → IsSetup S → IsSimulated S run → IsLawful S.net run

-- and there is only one
abbrev pub StatedRunIsUnique : Type 0
StatedRunIsUnique = (S : Setup) (a b : SpecRun) → IsSetup S → IsSimulated S a → IsSimulated S b → a ≡ b

-- the steps go by time, from T on
abbrev pub GoByTime : ℚ → List Step → Type 0
GoByTime T [] = Unit {0}
GoByTime T (x ∷ xs) = (T ≤ℚ step_time x) × GoByTime (step_time x) xs

-- those of the stated run do, from 0 on
abbrev pub StatedRunsGoByTime : Type 0
StatedRunsGoByTime = (S : Setup) (run : SpecRun) → IsSetup S → IsSimulated S run → GoByTime (int (pos 0)) run.steps

-- the state after the steps of a list, from the start
abbrev pub state_after : Setup → List Step → RunState
state_after S steps = after_run S.net (run_start S.net) steps

-- all packets of the trace have entered, and none is at a server or on a link
pub record HasAllLeft (S : Setup) (r : RunState) : Type 0 where
  pub entered : length r.entered ≡ length S.packets
  pub servers : (s : ℕ) → s < length S.net.servers → (state_at r s).inside ≡ []
  pub links : r.due ≡ []

-- at its end that is so
abbrev pub EveryPacketLeaves : Type 0
EveryPacketLeaves = (S : Setup) (run : SpecRun) → IsSetup S → IsSimulated S run → HasAllLeft S (state_after S run.steps)

-- packet p leaves server s at some time
pub record LeavesAt (steps : List Step) (s p : ℕ) : Type 0 where
  pub time : ℚ
  pub left : Contains steps (Leave s p time)

-- each packet of the trace leaves the last server of its path
abbrev pub EachLeavesItsLast : Type 0
EachLeavesItsLast = (S : Setup) (run : SpecRun) → IsSetup S → IsSimulated S run → (p : ℕ) → p < length S.packets
    → LeavesAt run.steps (last_server (route_of S.net (packet_of S p).flow).hops) p

-- a packet that comes by time t, or a start at that very time
abbrev pub ComesOrStarts : ℚ → Step → Type 0
ComesOrStarts t (Enter f p u b) = u ≤ℚ t
ComesOrStarts t (Reach s p u) = u ≤ℚ t
ComesOrStarts t (Work s p a b w) = a ≡ t
ComesOrStarts t (Leave s p u) = ⊥
ComesOrStarts t (Visit s q u) = u ≡ t

-- the list has a step of server s, and the first of them is such a one
abbrev pub StartsBy : Routes → ℕ → ℚ → List Step → Type 0
StartsBy net s t [] = ⊥
StartsBy net s t (x ∷ xs) = ((server_of net x ≡ s) × ComesOrStarts t x) ⊎ ((server_of net x ≢ s) × StartsBy net s t xs)

-- a server with packets of which none is under way, and that opens at t: unless another packet comes by then, it starts
-- one at t
abbrev pub OpenServersStart : Type 0
OpenServersStart = (S : Setup) (run : SpecRun) → IsSetup S → IsSimulated S run → (before behind : List Step)
    → run.steps ≡ before ++ behind
    → (s : ℕ) → s < length S.net.servers → (state_at (state_after S before) s).under ≡ None
    → (state_at (state_after S before) s).inside ≢ []
    → (t : ℚ) → IsFirstOpen S s (state_at (state_after S before) s).now t → StartsBy S.net s t behind
