-- A recorded run that can be walked, and the walk along it. Own choice.
use Rattle.std.specs.Prelude.{Option, Some, None, ◌≡◌, ℕ, ◌+◌, ◌≤◌, [], length, take, slice_get}
use Rattle.rational.specs.Rational.{ℚ}
use Rattle.run_laws.specs.declared.steps.Step.{Step}
use Rattle.run_laws.specs.Runs.{SpecRun}
use Rattle.run_laws.specs.Routes.{Routes}
use Rattle.run_laws.specs.Lawful.{run_start}
use Rattle.net_model.specs.stated_runs.TimeGrids.{HasRoom}
use Rattle.run_check.specs.declared.broken_laws.law.Law.{Law}
use Rattle.run_check.specs.broken_laws.Recorded.{HasPaths, AreRecorded}
use Rattle.run_check.specs.broken_laws.FirstBroken.{NoneBreaks, IsBrokenAtStep, state_before}
use Rattle.run_check.specs.declared.walk.Walk.{Walk}
use Rattle.run_check.specs.Walks.{Keeps, StepFits}

-- its numbers have room: packets' bits and the bits of works are on one grid, the time and the pace of works fit, and
-- where a packet leaves, the time and the link have a sum
pub record NumbersFit (net : Routes) (run : SpecRun) (grid : ℕ) (most : ℚ) : Type 0 where
  pub numbers : HasRoom grid most
  pub fits : (k : ℕ) (x : Step) → slice_get run.steps k ≡ Some x → StepFits net grid most x

-- on some grid
pub record HaveNumbers (net : Routes) (run : SpecRun) : Type 0 where
  pub grid : ℕ
  pub most : ℚ
  pub fit : NumbersFit net run grid most

-- a recorded run over paths
pub record IsWalkable (net : Routes) (run : SpecRun) (room grid : ℕ) (most : ℚ) : Type 0 where
  pub paths : HasPaths net
  pub recorded : AreRecorded net [] run.steps
  pub fit : NumbersFit net run grid most
  pub few : length run.steps ≤ room

-- the first k rows break no law, and the walk stands behind them
pub record Follows (net : Routes) (run : SpecRun) (k : ℕ) (w : Walk) : Type 0 where
  pub room : ℕ
  pub grid : ℕ
  pub most : ℚ
  pub walkable : IsWalkable net run room grid most
  pub keeps : Keeps net room grid most (take k run.steps) (state_before net run k) w
  pub none : NoneBreaks net run.end [] (run_start net) (take k run.steps)

-- so after one row more; or that one breaks a law
abbrev pub Goes : Routes → SpecRun → ℕ → Walk → Option Law → Type 0
Goes net run k w None = Follows net run (k + 1) w
Goes net run k w (Some law) = IsBrokenAtStep net run (k + 1) law
