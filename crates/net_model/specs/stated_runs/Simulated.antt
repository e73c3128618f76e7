-- The stated run: at each place the first of the steps that are due, until none is.
use Rattle.std.specs.Prelude.{◌≡◌, pos, List, [], ◌∷◌}
use Rattle.rational.specs.Rational.{ℚ, int}
use Rattle.run_laws.specs.declared.steps.Step.{Step}
use Rattle.run_laws.specs.Runs.{SpecRun}
use Rattle.run_laws.specs.Lawful.{RunState, next_run, run_start}
use Rattle.net_model.specs.stated_runs.Setups.{Setup}
use Rattle.net_model.specs.stated_runs.DueSteps.{IsDue, ComesFirst, step_time}

-- the step is due, and no step that is due comes before it
pub record IsNext (S : Setup) (r : RunState) (x : Step) : Type 0 where
  pub due : IsDue S r x
  pub first : (y : Step) → IsDue S r y → ComesFirst r x y

-- the steps from this state on; at the end nothing is due
abbrev pub Follows : Setup → RunState → List Step → Type 0
Follows S r [] = (y : Step) → ¬ (IsDue S r y)
Follows S r (x ∷ xs) = IsNext S r x × Follows S (next_run S.net r x) xs

-- the first steps from this state on, be it to the end or not
abbrev pub FollowsSoFar : Setup → RunState → List Step → Type 0
FollowsSoFar S r [] = Unit {0}
FollowsSoFar S r (x ∷ xs) = IsNext S r x × FollowsSoFar S (next_run S.net r x) xs

-- the time of the last step, `from` where there is none
abbrev pub last_time : ℚ → List Step → ℚ
last_time from [] = from
last_time from (x ∷ xs) = last_time (step_time x) xs

pub record IsSimulated (S : Setup) (run : SpecRun) : Type 0 where
  pub follows : Follows S (run_start S.net) run.steps
  pub ends : run.end ≡ last_time (int (pos 0)) run.steps
