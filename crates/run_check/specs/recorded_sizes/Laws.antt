-- The numbers of a recorded run whose gauge is below 2 ^ 120. Own choice.
use Rattle.std.specs.Prelude.{◌<◌, ◌≤◌, ◌^◌, length}
use Rattle.run_laws.specs.Runs.{SpecRun}
use Rattle.run_laws.specs.Lawful.{IsLawful}
use Rattle.net_model.specs.Networks.{Net}
use Rattle.net_model.specs.NetRoutes.{routes_of}
use Rattle.net_model.specs.Accepted.{IsAccepted}
use Rattle.run_check.specs.Following.{HaveNumbers}
use Rattle.simulator.specs.run_measures.Worst.{DelaysFit}
use Rattle.run_watch.specs.first_breaches.Sizes.{RunStands}
use Rattle.run_watch.specs.simulated_sizes.Laws.{AreCurves}
use Rattle.run_check.specs.check_gauge.Runs.{IsFromZero}
use Rattle.run_check.specs.check_gauge.Gauge.{check_sizes, check_gauge}

-- whatever the run breaks, a walk over its rows has room
abbrev pub RecordedRunsHaveNumbers : Type 0
RecordedRunsHaveNumbers = (net : Net) (run : SpecRun) → IsAccepted net → IsFromZero run → check_gauge net run < 2 ^ 120
    → HaveNumbers (routes_of net) run

-- and so have the sums by which its worst delays are found
abbrev pub RecordedRunsHaveDelays : Type 0
RecordedRunsHaveDelays = (net : Net) (run : SpecRun) → IsAccepted net → IsFromZero run → check_gauge net run < 2 ^ 120
    → DelaysFit (routes_of net) run.end run.steps

-- the numbers of a lawful run stand by the sizes of its gauge
abbrev pub LawfulRunsHaveSizes : Type 0
LawfulRunsHaveSizes = (net : Net) (run : SpecRun) → IsAccepted net → AreCurves net → IsFromZero run
    → length run.steps ≤ 2 ^ 32 → IsLawful (routes_of net) run → check_gauge net run < 2 ^ 120
    → RunStands (check_sizes net run) net run
