-- What holds of all recorded runs: one that breaks a law is not lawful, one that breaks none is, and there is one first
-- broken law.
use Rattle.std.specs.Prelude.{◌≡◌, ℕ, []}
use Rattle.run_laws.specs.Runs.{SpecRun}
use Rattle.run_laws.specs.Routes.{Routes}
use Rattle.run_laws.specs.Lawful.{run_start, after_run, IsLawful}
use Rattle.run_check.specs.declared.broken_laws.law.Law.{Law}
use Rattle.run_check.specs.broken_laws.Recorded.{HasPaths, AreRecorded}
use Rattle.run_check.specs.broken_laws.FirstBroken.{NoneBreaks, IsUnfinished, IsFirstBroken}

abbrev pub BrokenRunsAreUnlawful : Type 0
BrokenRunsAreUnlawful =
    (net : Routes) (run : SpecRun) (row : ℕ) (law : Law) → HasPaths net → IsFirstBroken net run row law
    → ¬ IsLawful net run

abbrev pub UnbrokenRunsAreLawful : Type 0
UnbrokenRunsAreLawful =
    (net : Routes) (run : SpecRun) → HasPaths net → AreRecorded net [] run.steps
    → NoneBreaks net run.end [] (run_start net) run.steps
    → ¬ IsUnfinished run.end (after_run net (run_start net) run.steps) → IsLawful net run

abbrev pub FirstBrokenIsOne : Type 0
FirstBrokenIsOne =
    (net : Routes) (run : SpecRun) (row other : ℕ) (law another : Law) → IsFirstBroken net run row law
    → IsFirstBroken net run other another → (row ≡ other) × (law ≡ another)
