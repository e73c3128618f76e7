-- What holds of the replies on a network and a trace.
use Rattle.std.specs.Prelude.{◌≡◌, ◌≢◌, ◌<◌, ◌^◌, ◌⊎◌, ℕ, List, [], Some, slice_get}
use Rattle.rational.specs.Rational.{ℚ}
use Rattle.upp_limits.specs.declared.op_kind.OpFault.{OpFault}
use Rattle.upp_limits.specs.declared.own_limits.OverLimit.TheVariants.{TooMany, TooWide}
use Rattle.net_model.specs.declared.breach.Breach.TheVariants.{Service}
use Rattle.net_model.specs.Networks.{Net, NetServer}
use Rattle.net_model.specs.Orders.{IsOrder}
use Rattle.net_model.specs.Traces.{SpecTrace}
use Rattle.net_model.specs.Walks.{IsFeedForward}
use Rattle.net_text.specs.Reading.{IsNetworkOf}
use Rattle.net_cells.specs.declared.cell.Cell.{Cell}
use Rattle.net_cells.specs.FirstOver.{FirstOver}
use Rattle.net_bounds.specs.NetRuns.{IsRunOf}
use Rattle.sim_bounds.specs.Gauge.{simulation_gauge}
use Rattle.net_model.specs.stated_runs.FromTraces.{stalls_at}
use Rattle.sim_bounds.specs.stated_service.Laws.{IsByFormula}
use Rattle.run_watch.specs.first_breaches.Firsts.{IsNetBreach}
use Rattle.input_texts.specs.table_text.Rows.{rows_of}
use Rattle.input_texts.specs.table_text.Traces.{IsTraceOf}
use Rattle.command_replies.specs.Causes as causes
use Rattle.command_replies.specs.Guarantee.{Guarantees}
use Rattle.command_replies.specs.Replies.{Reply, AreSame}
use Rattle.command_replies.specs.run_findings.RunBounds.{AreWithinBounds}
use Rattle.command_replies.specs.run_findings.Statuses.{IsOfReport, StatusTells}
use Rattle.commands.specs.simulate.OnTraces.{IsMalformed, IsOverLimit, HasCycleBehind, IsSimulationOver}
use Rattle.commands.specs.simulate.OnTraces.{IsRunReport, IsRunReply}

-- ---- reports
abbrev pub StatusTellsPremises : Type 0
StatusTellsPremises =
    (net_bytes trace_bytes : List ℕ) (reply : Reply) (h : IsRunReport net_bytes trace_bytes reply)
    → StatusTells h.net h.report.run reply.status

-- no window of a server of kind latency or gate without a stall is told: the run of a report has no such breach
abbrev pub OpenServersBreakNothing : Type 0
OpenServersBreakNothing =
    (net_bytes trace_bytes : List ℕ) (reply : Reply) (h : IsRunReport net_bytes trace_bytes reply) (s : ℕ)
    (server : NetServer) → slice_get h.net.servers s ≡ Some server → IsByFormula server.kind
    → stalls_at s h.trace.stalls ≡ [] → (a b : ℚ)
    → (¬ IsNetBreach h.net h.report.run (Service s a b)) × (h.report.tells.found.breach ≢ Some (Service s a b))

-- a report without a breach is of a lawful run that keeps them: so no number of it is above its bound
pub record IsQuietReport (net_bytes trace_bytes : List ℕ) (reply : Reply) : Type 0 where
  pub report : IsRunReport net_bytes trace_bytes reply
  pub is_run : IsRunOf report.net report.report.run
  pub within : AreWithinBounds report.net report.at report.report.tells.found

abbrev pub QuietRunsAreWithinBounds : Type 0
QuietRunsAreWithinBounds =
    (net_file net_bytes trace_file trace_bytes : List ℕ) (reply : Reply)
    → IsRunReply net_file net_bytes trace_file trace_bytes reply → reply.status ≡ 0
    → IsQuietReport net_bytes trace_bytes reply

-- whatever the run of a report keeps, its bounds hold for every run that keeps the premises
abbrev pub ReportsGuarantee : Type 0
ReportsGuarantee =
    (net_bytes trace_bytes : List ℕ) (reply : Reply) (h : IsRunReport net_bytes trace_bytes reply)
    → Guarantees h.net h.at

-- ---- all replies
-- each status has its cause, and there is no other
abbrev pub HasCause : (net_file net_bytes trace_file trace_bytes : List ℕ) → Reply → Type 0
HasCause net_file net_bytes trace_file trace_bytes =
    causes.HasCause (IsRunReport net_bytes trace_bytes) (IsRunReport net_bytes trace_bytes)
    (IsMalformed net_file net_bytes trace_file trace_bytes)
    (λ reply. IsOverLimit TooWide net_bytes trace_bytes reply ⊎ IsSimulationOver net_bytes trace_bytes reply)
    (IsOverLimit TooMany net_bytes trace_bytes) (HasCycleBehind net_bytes trace_bytes)

abbrev pub StatusesHaveCauses : Type 0
StatusesHaveCauses =
    (net_file net_bytes trace_file trace_bytes : List ℕ) (reply : Reply)
    → IsRunReply net_file net_bytes trace_file trace_bytes reply
    → HasCause net_file net_bytes trace_file trace_bytes reply

-- the files determine the status, and the text unless it tells a cycle
abbrev pub RepliesAreDetermined : Type 0
RepliesAreDetermined =
    (net_file net_bytes trace_file trace_bytes : List ℕ) (x y : Reply)
    → IsRunReply net_file net_bytes trace_file trace_bytes x → IsRunReply net_file net_bytes trace_file trace_bytes y
    → AreSame x y

-- files that give a network without a cycle and a trace of it; by no order of its servers a cell is over a limit, nor
-- is the simulation over its gauge
pub record IsWithinLimits (net_bytes trace_bytes : List ℕ) : Type 0 where
  pub net : Net
  pub reads : IsNetworkOf net_bytes net
  pub trace : SpecTrace
  pub rows : IsTraceOf net (rows_of trace_bytes) trace
  pub feed_forward : IsFeedForward net
  pub within : (order : List ℕ) (c : Cell) (fault : OpFault) → IsOrder net order → ¬ (FirstOver net order c fault)
  pub narrow : simulation_gauge net trace < 2 ^ 120

-- their one reply is a report
abbrev pub RepliesAreComplete : Type 0
RepliesAreComplete =
    (net_file net_bytes trace_file trace_bytes : List ℕ) (reply : Reply) → IsWithinLimits net_bytes trace_bytes
    → IsRunReply net_file net_bytes trace_file trace_bytes reply → IsOfReport reply.status
