-- What a recorded run that was read has before its laws are looked at, and after.
use Rattle.std.proofs.Common.{◌<◌, ◌≤◌, ◌-◌, ◌^◌, List, [], ◌∷◌, length, arith}
use Rattle.std.specs.List.{AllByRecursion}
use Rattle.std.specs.Prelude.{pos}
use Rattle.rational.specs.Rational.{int, ◌≤ℚ◌}
use Rattle.run_laws.specs.declared.steps.Step.{Step}
use Rattle.run_laws.specs.declared.steps.Step.TheVariants.{Enter, Reach, Work, Leave, Visit}
use Rattle.run_laws.specs.Runs.{SpecRun}
use Rattle.net_model.specs.Networks.{Net}
use Rattle.run_check.specs.run_table.ReadRuns as read
use Rattle.run_check.specs.run_table.ReadRuns.{IsRecordedRun}
use Rattle.run_check.specs.check_gauge.Runs.{times_of, IsFromZero}

times_from : (xs : List Step) → AllByRecursion read.IsFromZero xs
    → AllByRecursion (λ t. int (pos 0) ≤ℚ t) (times_of xs)
times_from [] h = tt
times_from (Enter f p t b ∷ xs) h = (h.0, times_from xs h.1)
times_from (Reach s p t ∷ xs) h = (h.0, times_from xs h.1)
times_from (Work s p a b w ∷ xs) h = (h.0.0, (h.0.1, times_from xs h.1))
times_from (Leave s p t ∷ xs) h = (h.0, times_from xs h.1)
times_from (Visit s q t ∷ xs) h = (h.0, times_from xs h.1)

pub from_zero : (net : Net) (run : SpecRun) → IsRecordedRun net run → IsFromZero run
from_zero net run h = record { end = h.end; steps = times_from run.steps h.times }

pub few_steps : (net : Net) (run : SpecRun) → IsRecordedRun net run → length run.steps < 2 ^ 32 - 1
few_steps net run h = let few = h.few in omega (arith, few)

pub steps_at_most : (net : Net) (run : SpecRun) → IsRecordedRun net run → length run.steps ≤ 2 ^ 32
steps_at_most net run h = let few = h.few in omega (arith, few)

pub steps_below : (net : Net) (run : SpecRun) → IsRecordedRun net run → length run.steps < 2 ^ 32
steps_below net run h = let few = h.few in omega (arith, few)
