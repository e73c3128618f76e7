-- What holds of the replies on the number of a workload.
use Rattle.std.specs.Prelude.{◌≡◌, ◌<◌, ◌^◌, ℕ, List, IsTrue}
use Rattle.rational.specs.Extended.{◌≤ₑ◌}
use Rattle.rational.specs.declared.Extended.TheVariants.{Fin}
use Rattle.upp_limits.specs.declared.op_kind.OpFault.{OpFault}
use Rattle.upp_limits.specs.declared.own_limits.OverLimit.TheVariants.{TooMany}
use Rattle.run_laws.specs.Bounds.{IsFlowBounded}
use Rattle.run_laws.specs.Runs.{SpecRun}
use Rattle.net_model.specs.NetRoutes.{routes_of}
use Rattle.net_model.specs.Networks.{Net}
use Rattle.net_model.specs.Orders.{IsOrder}
use Rattle.net_cells.specs.declared.cell.Cell.{Cell}
use Rattle.net_cells.specs.FirstOver.{FirstOver}
use Rattle.net_cells.specs.Meanings.{CellTable}
use Rattle.net_cells.specs.Numbered.{is_live}
use Rattle.net_bounds.specs.NetRuns.{IsRunOf}
use Rattle.sim_bounds.specs.Gauge.{simulation_gauge}
use Rattle.command_replies.specs.Causes as causes
use Rattle.command_replies.specs.Causes.{NoReply}
use Rattle.command_replies.specs.Guarantee.{Guarantees}
use Rattle.command_replies.specs.Replies.{Reply}
use Rattle.command_replies.specs.run_findings.RunBounds.{AreWithinBounds}
use Rattle.command_replies.specs.run_findings.Statuses.{IsOfReport, StatusTells}
use Rattle.exercise_load.specs.Workloads.{network_of, trace_of}
use Rattle.exercise_load.specs.exercise_report.Largest.{largest_bound, largest_delay}
use Rattle.commands.specs.exercise.OnSeeds.{IsCellOver, IsSummarised, IsExerciseReply, IsWide}

-- ---- summaries
-- the status is 0 exactly where the run of a summary keeps the premises, and 9 exactly where it does not
abbrev pub SummaryTellsPremises : Type 0
SummaryTellsPremises =
    (seed : ℕ) (reply : Reply) (h : IsSummarised seed reply)
    → StatusTells (network_of seed) h.report.run reply.status

-- a summary without a breach is of a lawful run that keeps them: so no number of it is above its bound, nor is the
-- largest of its worst delays above the largest bound
pub record IsQuietSummary (seed : ℕ) (reply : Reply) : Type 0 where
  pub summary : IsSummarised seed reply
  pub is_run : IsRunOf (network_of seed) summary.report.run
  pub within : AreWithinBounds (network_of seed) summary.at summary.report.tells.found
  pub largest : Fin (largest_delay summary.report.tells.found.worst) ≤ₑ largest_bound (network_of seed) summary.at

abbrev pub QuietSummariesAreWithinBounds : Type 0
QuietSummariesAreWithinBounds =
    (seed : ℕ) (reply : Reply) → IsExerciseReply seed reply → reply.status ≡ 0 → IsQuietSummary seed reply

-- no packet of a live flow takes longer than the largest bound, in whatever run keeps the premises
abbrev pub BoundsEachDelay : Net → CellTable → Type 0
BoundsEachDelay net at =
    (run : SpecRun) (i : ℕ) → IsRunOf net run → IsTrue (is_live net i)
    → IsFlowBounded (routes_of net) run i (largest_bound net at)

-- whatever the run of a summary keeps, its table is the guarantee's, and its largest bound is one of every delay
pub record SummaryGuarantees (seed : ℕ) (at : CellTable) : Type 0 where
  pub table : Guarantees (network_of seed) at
  pub largest : BoundsEachDelay (network_of seed) at

abbrev pub SummariesGuarantee : Type 0
SummariesGuarantee = (seed : ℕ) (reply : Reply) (h : IsSummarised seed reply) → SummaryGuarantees seed h.at

-- ---- all replies
-- each status has its cause, and there is no other
abbrev pub HasCause : ℕ → Reply → Type 0
HasCause seed =
    causes.HasCause (IsSummarised seed) (IsSummarised seed) NoReply (IsWide seed)
    (IsCellOver TooMany (network_of seed)) NoReply

abbrev pub StatusesHaveCauses : Type 0
StatusesHaveCauses = (seed : ℕ) (reply : Reply) → IsExerciseReply seed reply → HasCause seed reply

-- a number has one reply
abbrev pub RepliesAreDetermined : Type 0
RepliesAreDetermined =
    (seed : ℕ) (x y : Reply) → IsExerciseReply seed x → IsExerciseReply seed y → x ≡ y

-- by no order of the servers a cell is over a limit, nor is the simulation over its gauge
pub record IsWithinLimits (seed : ℕ) : Type 0 where
  pub within : (order : List ℕ) (c : Cell) (fault : OpFault) → IsOrder (network_of seed) order
      → ¬ (FirstOver (network_of seed) order c fault)
  pub narrow : simulation_gauge (network_of seed) (trace_of seed) < 2 ^ 120

-- then its one reply is a summary
abbrev pub RepliesAreComplete : Type 0
RepliesAreComplete =
    (seed : ℕ) (reply : Reply) → IsWithinLimits seed → IsExerciseReply seed reply → IsOfReport reply.status
