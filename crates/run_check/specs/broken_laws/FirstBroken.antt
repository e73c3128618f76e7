-- The first law that a recorded run breaks, and the row at which it does. Rows are counted from 1; the run's end is the
-- row after those of its steps. Own choice.
use Rattle.std.specs.Prelude.{Some, ◌≡◌, ◌⊎◌, ℕ, suc, ◌<◌, List, [], ◌∷◌, ◌++◌, length, take, slice_get}
use Rattle.std.specs.List.{Any}
use Rattle.rational.specs.Rational.{ℚ, ◌≤ℚ◌}
use Rattle.run_laws.specs.declared.steps.Step.{Step}
use Rattle.run_laws.specs.Runs.{SpecRun}
use Rattle.run_laws.specs.Allows.{IsComplete}
use Rattle.run_laws.specs.Routes.{Routes}
use Rattle.run_laws.specs.Lawful.{RunState, next_run, run_start, after_run}
use Rattle.run_check.specs.declared.broken_laws.law.Law.{Law}
use Rattle.run_check.specs.declared.broken_laws.law.Law.TheVariants.{L1, L2, L3, L4, L5, L6, L7, L8, L9}
use Rattle.run_check.specs.broken_laws.Broken.{Breaks}

-- the order of the laws
abbrev pub number_of : Law → ℕ
number_of L1 = 1
number_of L2 = 2
number_of L3 = 3
number_of L4 = 4
number_of L5 = 5
number_of L6 = 6
number_of L7 = 7
number_of L8 = 8
number_of L9 = 9

-- ---- one step
abbrev pub BreaksNone : Routes → ℚ → List Step → RunState → Step → Type 0
BreaksNone net end before r x = (law : Law) → ¬ Breaks net end before r x law

-- the step breaks the law, and none before it
pub record BreaksFirst (net : Routes) (end : ℚ) (before : List Step) (r : RunState) (x : Step) (law : Law) : Type 0
  where
    pub breaks : Breaks net end before r x law
    pub no_other : (other : Law) → number_of other < number_of law → ¬ Breaks net end before r x other

-- ---- a run
-- no step breaks a law, after the steps before, which led to the state r
abbrev pub NoneBreaks : Routes → ℚ → List Step → RunState → List Step → Type 0
NoneBreaks net end before r [] = Unit {0}
NoneBreaks net end before r (x ∷ xs) =
    BreaksNone net end before r x × NoneBreaks net end (before ++ x ∷ []) (next_run net r x) xs

-- the state before a step of a run
abbrev pub state_before : Routes → SpecRun → ℕ → RunState
state_before net run k = after_run net (run_start net) (take k run.steps)

-- the steps before that of a row break no law, and that one breaks this law first
pub record IsBrokenAtStep (net : Routes) (run : SpecRun) (row : ℕ) (law : Law) : Type 0 where
  pub before : ℕ
  pub step : Step
  pub is : slice_get run.steps before ≡ Some step
  pub place : row ≡ suc before
  pub none : NoneBreaks net run.end [] (run_start net) (take before run.steps)
  pub first : BreaksFirst net run.end (take before run.steps) (state_before net run before) step law

-- L9: at the end a packet on a link should have reached its server, or one that is worked off has not left
abbrev pub IsUnfinished : ℚ → RunState → Type 0
IsUnfinished end r = Any (λ d. d.time ≤ℚ end) r.due ⊎ Any (λ s. IsComplete s.under) r.servers

-- no step breaks a law, and so the end does
pub record IsBrokenAtEnd (net : Routes) (run : SpecRun) (row : ℕ) (law : Law) : Type 0 where
  pub law_is : law ≡ L9
  pub place : row ≡ suc (length run.steps)
  pub none : NoneBreaks net run.end [] (run_start net) run.steps
  pub unfinished : IsUnfinished run.end (after_run net (run_start net) run.steps)

abbrev pub IsFirstBroken : Routes → SpecRun → ℕ → Law → Type 0
IsFirstBroken net run row law = IsBrokenAtStep net run row law ⊎ IsBrokenAtEnd net run row law
