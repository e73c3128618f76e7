-- What is answered on the number of a workload, whose network has no cycle, stage by stage: on the first cell of its
-- network over a limit; and else by the simulation of its trace beside a table of all cells.
use Rattle.std.specs.Prelude.{◌⊎◌, ℕ, List}
use Rattle.upp_limits.specs.declared.own_limits.OverLimit.{OverLimit}
use Rattle.upp_limits.specs.declared.own_limits.OverLimit.TheVariants.{TooWide}
use Rattle.net_model.specs.Networks.{Net}
use Rattle.net_model.specs.Orders.{IsOrder}
use Rattle.net_cells.specs.Equations.{MeetsEquations}
use Rattle.net_cells.specs.FirstOver.{AnswersAll}
use Rattle.net_cells.specs.Meanings.{CellTable}
use Rattle.net_cells.specs.Order.{evaluation_order}
use Rattle.run_watch.specs.simulated_sizes.Laws.{AreCurves}
use Rattle.command_replies.specs.OnFiles.{IsNetOver, OnOrder, OnCurves}
use Rattle.command_replies.specs.Replies.{Reply}
use Rattle.outcomes.specs.Stages.{Behind}
use Rattle.command_replies.specs.simulated_findings.Found.{IsTooWide, IsReportBy, IsSimulationReplyBy}
use Rattle.exercise_load.specs.Workloads.{network_of, trace_of}
use Rattle.exercise_load.specs.exercise_report.Summary.{summary_of}

-- ---- all of them
-- the reply beside a table of all cells
abbrev pub IsReplyBeside : ℕ → CellTable → Reply → Type 0
IsReplyBeside seed = IsSimulationReplyBy (summary_of seed) (network_of seed) (trace_of seed)

-- by an order of the servers of a network
abbrev pub IsReplyInOrder : ℕ → Net → (order : List ℕ) → Reply → Type 0
IsReplyInOrder seed net = OnOrder net (OnCurves net (IsReplyBeside seed))

-- on the number
abbrev pub IsExerciseReply : ℕ → Reply → Type 0
IsExerciseReply seed = Behind (IsOrder (network_of seed)) (IsReplyInOrder seed (network_of seed))

-- ---- simulations
-- its curves are in normal form, its servers have an order, and each cell has its answer in this table, which so meets
-- the equations
pub record IsAnalysed (net : Net) (at : CellTable) : Type 0 where
  pub curves : AreCurves net
  pub order : List ℕ
  pub ordered : IsOrder net order
  pub answers : AnswersAll net at (evaluation_order net order)
  pub meets : MeetsEquations net at

pub record IsSimulationOver (seed : ℕ) (reply : Reply) : Type 0 where
  pub at : CellTable
  pub analysed : IsAnalysed (network_of seed) at
  pub over : IsTooWide (network_of seed) (trace_of seed) reply

-- the summary of the workload's number tells what is found in the stated run, beside the numbers of the table
pub record IsSummarised (seed : ℕ) (reply : Reply) : Type 0 where
  pub at : CellTable
  pub analysed : IsAnalysed (network_of seed) at
  pub report : IsReportBy (summary_of seed) (network_of seed) (trace_of seed) at reply

-- ---- cells
-- its servers have an order, and by it the first cell over a limit is over this one
abbrev pub IsCellOver : OverLimit → Net → Reply → Type 0
IsCellOver = IsNetOver

-- the first cell that is too wide, or else the simulation
abbrev pub IsWide : ℕ → Reply → Type 0
IsWide seed reply = IsCellOver TooWide (network_of seed) reply ⊎ IsSimulationOver seed reply
