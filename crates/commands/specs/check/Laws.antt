-- What holds of the replies on a network and a recorded run.
use Rattle.std.specs.Prelude.{◌≡◌, ◌<◌, ◌^◌, ◌↔◌, ◌⊎◌, ℕ, List, None}
use Rattle.upp_limits.specs.declared.op_kind.OpFault.{OpFault}
use Rattle.upp_limits.specs.declared.own_limits.OverLimit.TheVariants.{TooMany, TooWide}
use Rattle.run_laws.specs.Lawful.{IsLawful}
use Rattle.run_laws.specs.Runs.{SpecRun}
use Rattle.net_model.specs.Networks.{Net}
use Rattle.net_model.specs.NetRoutes.{routes_of}
use Rattle.net_model.specs.Orders.{IsOrder}
use Rattle.net_model.specs.Walks.{IsFeedForward}
use Rattle.net_text.specs.Reading.{IsNetworkOf}
use Rattle.net_cells.specs.declared.cell.Cell.{Cell}
use Rattle.net_cells.specs.FirstOver.{FirstOver}
use Rattle.net_cells.specs.Meanings.{CellTable}
use Rattle.net_bounds.specs.NetRuns as runs
use Rattle.run_check.specs.check_gauge.Gauge.{check_gauge}
use Rattle.input_texts.specs.table_text.Rows.{rows_of}
use Rattle.run_check.specs.run_table.Runs.{IsRunOf}
use Rattle.report_text.specs.RunReport.{Found}
use Rattle.command_replies.specs.Causes as causes
use Rattle.command_replies.specs.Guarantee.{Guarantees}
use Rattle.command_replies.specs.Replies.{Reply, AreSame}
use Rattle.command_replies.specs.run_findings.Findings.{AreFindings, found_report}
use Rattle.command_replies.specs.run_findings.RunBounds.{AreWithinBounds}
use Rattle.command_replies.specs.run_findings.Statuses.{IsOfReport}
use Rattle.run_check.specs.check_report.CheckReport.{lawful_report_of}
use Rattle.commands.specs.check.Checked.{packets_in, IsUnlawfulOn, IsLawfulOn}
use Rattle.commands.specs.check.OnRuns.{IsMalformed, IsOverLimit, HasCycleBehind, IsCheckOver, IsCheckReport, IsCheckReply}

-- ---- reports
-- the status tells whether the run is lawful and keeps each flow's longest packet and arrival curve, and each server's
-- service curve; the first law that it breaks is told exactly where it is not lawful, and what is found in it, with its
-- first breach, exactly where it is
pub record VerdictTells (net : Net) (run : SpecRun) (at : CellTable) (reply : Reply) : Type 0 where
  pub admissible : (reply.status ≡ 0) ↔ runs.IsRunOf net run
  pub refused : (reply.status ≡ 9) ↔ (¬ runs.IsRunOf net run)
  pub unlawful : IsUnlawfulOn net run reply ↔ (¬ IsLawful (routes_of net) run)
  pub lawful : IsLawfulOn net run at reply ↔ IsLawful (routes_of net) run

abbrev pub VerdictsTellRuns : Type 0
VerdictsTellRuns =
    (net_bytes run_bytes : List ℕ) (reply : Reply) (h : IsCheckReport net_bytes run_bytes reply)
    → VerdictTells h.net h.run h.at reply

-- the report of an admissible run, whose numbers are all within the bounds beside them
pub record IsAdmissible (net_bytes run_bytes : List ℕ) (reply : Reply) : Type 0 where
  pub report : IsCheckReport net_bytes run_bytes reply
  pub is_run : runs.IsRunOf report.net report.run
  pub found : Found
  pub finds : AreFindings report.net report.run (packets_in report.run.steps) found
  pub quiet : found.breach ≡ None
  pub is : reply ≡ found_report lawful_report_of report.net report.at found
  pub within : AreWithinBounds report.net report.at found

abbrev pub AdmissibleRunsAreWithinBounds : Type 0
AdmissibleRunsAreWithinBounds =
    (net_file net_bytes run_file run_bytes : List ℕ) (reply : Reply)
    → IsCheckReply net_file net_bytes run_file run_bytes reply → reply.status ≡ 0
    → IsAdmissible net_bytes run_bytes reply

-- whatever the run of a report keeps, its bounds hold for every run that keeps the premises
abbrev pub ReportsGuarantee : Type 0
ReportsGuarantee =
    (net_bytes run_bytes : List ℕ) (reply : Reply) (h : IsCheckReport net_bytes run_bytes reply)
    → Guarantees h.net h.at

-- ---- all replies
-- each status has its cause, and there is no other
abbrev pub HasCause : (net_file net_bytes run_file run_bytes : List ℕ) → Reply → Type 0
HasCause net_file net_bytes run_file run_bytes =
    causes.HasCause (IsCheckReport net_bytes run_bytes) (IsCheckReport net_bytes run_bytes)
    (IsMalformed net_file net_bytes run_file run_bytes)
    (λ reply. IsOverLimit TooWide net_bytes run_bytes reply ⊎ IsCheckOver net_bytes run_bytes reply)
    (IsOverLimit TooMany net_bytes run_bytes) (HasCycleBehind net_bytes run_bytes)

abbrev pub StatusesHaveCauses : Type 0
StatusesHaveCauses =
    (net_file net_bytes run_file run_bytes : List ℕ) (reply : Reply)
    → IsCheckReply net_file net_bytes run_file run_bytes reply → HasCause net_file net_bytes run_file run_bytes reply

-- the files determine the status, and the text unless it tells a cycle
abbrev pub RepliesAreDetermined : Type 0
RepliesAreDetermined =
    (net_file net_bytes run_file run_bytes : List ℕ) (x y : Reply)
    → IsCheckReply net_file net_bytes run_file run_bytes x → IsCheckReply net_file net_bytes run_file run_bytes y
    → AreSame x y

-- files that give a network without a cycle and a run of it; by no order of its servers a cell is over a limit, nor is
-- the run over its gauge
pub record IsWithinLimits (net_bytes run_bytes : List ℕ) : Type 0 where
  pub net : Net
  pub reads : IsNetworkOf net_bytes net
  pub run : SpecRun
  pub rows : IsRunOf net (rows_of run_bytes) run
  pub feed_forward : IsFeedForward net
  pub within : (order : List ℕ) (c : Cell) (fault : OpFault) → IsOrder net order → ¬ (FirstOver net order c fault)
  pub narrow : check_gauge net run < 2 ^ 120

-- their one reply is a report
abbrev pub RepliesAreComplete : Type 0
RepliesAreComplete =
    (net_file net_bytes run_file run_bytes : List ℕ) (reply : Reply) → IsWithinLimits net_bytes run_bytes
    → IsCheckReply net_file net_bytes run_file run_bytes reply → IsOfReport reply.status
