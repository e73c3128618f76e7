-- What holds of every recorded run that a text gives: its steps are those of a recorded run, of a network, from time 0 on.
use Rattle.std.specs.Prelude.{◌<◌, List, [], length}
use Rattle.std.specs.List.{AllByRecursion}
use Rattle.rational.specs.Rational.{◌≤ℚ◌}
use Rattle.min_plus.specs.Functions.{zero_q}
use Rattle.run_laws.specs.declared.steps.Step.{Step}
use Rattle.run_laws.specs.declared.steps.Step.TheVariants.{Enter, Reach, Work, Leave, Visit}
use Rattle.run_laws.specs.Runs.{SpecRun}
use Rattle.net_model.specs.Networks.{Net}
use Rattle.net_model.specs.NetRoutes.{routes_of}
use Rattle.run_check.specs.broken_laws.Recorded.{AreRecorded}
use Rattle.input_texts.specs.table_text.Rows.{Row}
use Rattle.input_texts.specs.table_text.Traces.{most_rows}
use Rattle.run_check.specs.run_table.Runs.{IsRunOf}

-- all times of a step are from 0 on
abbrev pub IsFromZero : Step → Type 0
IsFromZero (Enter f p t b) = zero_q ≤ℚ t
IsFromZero (Reach s p t) = zero_q ≤ℚ t
IsFromZero (Work s p a b w) = (zero_q ≤ℚ a) × (zero_q ≤ℚ b)
IsFromZero (Leave s p t) = zero_q ≤ℚ t
IsFromZero (Visit s q t) = zero_q ≤ℚ t

-- its steps name live flows and servers of the network, and packets are numbered in the order in which they enter
pub record IsRecordedRun (net : Net) (run : SpecRun) : Type 0 where
  pub recorded : AreRecorded (routes_of net) [] run.steps
  pub times : AllByRecursion IsFromZero run.steps
  pub end : zero_q ≤ℚ run.end
  pub few : length run.steps < most_rows

abbrev pub RunsReadAreRecorded : Type 0
RunsReadAreRecorded = (net : Net) (rows : List Row) (run : SpecRun) → IsRunOf net rows run → IsRecordedRun net run
