-- What holds of a simulation between two steps.
use Rattle.std.specs.Prelude.{Option, Some, ◌≡◌, ℕ, ◌<◌, ◌^◌, List, length, slice_get}
use Rattle.rational.specs.Rational.{ℚ}
use Rattle.run_laws.specs.declared.steps.Step.{Step}
use Rattle.queue_sched.specs.index_links.Chains.{Chains}
use Rattle.queue_sched.specs.declared.turn.Turn.{Turn}
use Rattle.net_model.specs.stated_runs.Setups.{Setup, IsSetup}
use Rattle.net_model.specs.stated_runs.TimeGrids.{AreStallTimes, RunFits}
use Rattle.sim_servers.specs.declared.due.Due.{Due}
use Rattle.sim_servers.specs.declared.station.Station.{Station}
use Rattle.sim_servers.specs.Openings.{opening_for}
use Rattle.sim_servers.specs.declared.sim_states.arrival.Arrival.{Arrival}
use Rattle.sim_servers.specs.sim_states.Running.{IsRunning, IsFirstCandidate}
use Rattle.sim_servers.specs.sim_loop.Moves.{HasTurned}

-- the stalls that the stations keep are times of the grid
abbrev pub HaveStallTimes : ℕ → ℚ → List Station → Type 0
HaveStallTimes D E stations = (s : ℕ) (x : Station) → slice_get stations s ≡ Some x
    → AreStallTimes D E (opening_for x.opening).stalls

-- the setup's numbers have room, and the simulator keeps the state of its stated run after these steps
pub record IsSimulating (S : Setup) (stations : List Station) (links : Chains) (arrivals : List Arrival) (entered : ℕ)
    (steps : List Step) : Type 0 where
  pub setup : IsSetup S
  pub few : length S.packets < 2 ^ 31
  pub few_servers : length S.net.servers < 2 ^ 32
  pub grid : ℕ
  pub most : ℚ
  pub fits : RunFits S grid most
  pub stalls : HaveStallTimes grid most stations
  pub running : IsRunning S stations links arrivals entered steps

-- and this is the first of all that is due
pub record IsFirstDue (S : Setup) (stations : List Station) (links : Chains) (arrivals : List Arrival) (entered : ℕ)
    (steps : List Step) (d : Due) : Type 0 where
  pub now : IsSimulating S stations links arrivals entered steps
  pub first : IsFirstCandidate S stations links arrivals entered (length S.net.servers) (Some d)

-- the queues of the server of what is due have taken this turn, and nothing else is another
pub record IsTurning (S : Setup) (stations : List Station) (links : Chains) (arrivals : List Arrival) (entered : ℕ)
    (steps : List Step) (d : Due) (turn : Option Turn) : Type 0 where
  pub before : List Station
  pub due : IsFirstDue S before links arrivals entered steps d
  pub turned : HasTurned before stations d.server turn
