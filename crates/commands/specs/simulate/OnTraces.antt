-- What is answered on the bytes of a network and of a trace of it, stage by stage: on the network's first fault; on the
-- trace's first fault; on a cycle of the network; on the first cell over a limit; and else by the simulation beside a table
-- of all cells.
use Rattle.std.specs.Prelude.{ℕ, List, ◌⊎◌}
use Rattle.upp_limits.specs.declared.own_limits.OverLimit.{OverLimit}
use Rattle.net_model.specs.Networks.{Net}
use Rattle.net_model.specs.Orders.{IsOrder}
use Rattle.net_model.specs.Traces.{SpecTrace, IsTrace}
use Rattle.net_cells.specs.Meanings.{CellTable}
use Rattle.net_cells.specs.Equations.{MeetsEquations}
use Rattle.net_cells.specs.FirstOver.{AnswersAll}
use Rattle.net_cells.specs.Order.{evaluation_order}
use Rattle.run_watch.specs.simulated_sizes.Laws.{AreCurves}
use Rattle.input_texts.specs.table_text.Rows.{rows_of}
use Rattle.input_texts.specs.table_text.Traces.{IsTraceOf}
use Rattle.command_replies.specs.Replies.{Reply}
use Rattle.command_replies.specs.OnFiles.{IsBroken, IsCurveOver, IsNetOf, IsBadTraceOf, IsBadTrace, OnCycle, IsNetOver}
use Rattle.command_replies.specs.OnFiles.{OnFile, OnTable, OnCurves}
use Rattle.outcomes.specs.Stages.{Staged, Behind}
use Rattle.report_text.specs.RunReport.{run_report_of}
use Rattle.command_replies.specs.simulated_findings.Found.{IsTooWide, IsReportBy, IsSimulationReplyBy}

-- ---- traces
-- the trace of a network that the rows of a file give, with all that a trace keeps
pub record GivesTrace (net : Net) (bytes : List ℕ) (trace : SpecTrace) : Type 0 where
  pub reads : IsTraceOf net (rows_of bytes) trace
  pub keeps : IsTrace trace

-- ---- all of them
-- the reply on a network and a trace, beside this table: the simulation is over its gauge, or reported
abbrev pub IsSimulationReply : Net → SpecTrace → CellTable → Reply → Type 0
IsSimulationReply = IsSimulationReplyBy run_report_of

-- on a network and a trace of it
abbrev pub IsRunReplyOnTrace : Net → SpecTrace → Reply → Type 0
IsRunReplyOnTrace net trace = OnTable net (OnCurves net (IsSimulationReply net trace))

-- on a network, with a trace's name and bytes
abbrev pub IsRunReplyOnNet : Net → (trace_file trace_bytes : List ℕ) → Reply → Type 0
IsRunReplyOnNet net trace_file trace_bytes =
    Staged (IsBadTraceOf net trace_file trace_bytes) (GivesTrace net trace_bytes) (IsRunReplyOnTrace net)

-- on files with these names and bytes
abbrev pub IsRunReply : (net_file net_bytes trace_file trace_bytes : List ℕ) → Reply → Type 0
IsRunReply net_file net_bytes trace_file trace_bytes =
    OnFile net_file net_bytes (λ net. IsRunReplyOnNet net trace_file trace_bytes)

-- ---- simulations
-- the network and the trace that the files give; the network's servers have an order, and each cell has its answer in
-- this table, which so meets the equations
pub record AreAnalysed (net_bytes trace_bytes : List ℕ) (net : Net) (trace : SpecTrace) (at : CellTable) : Type 0 where
  pub gives : IsNetOf net_bytes net
  pub curves : AreCurves net
  pub read : GivesTrace net trace_bytes trace
  pub order : List ℕ
  pub ordered : IsOrder net order
  pub answers : AnswersAll net at (evaluation_order net order)
  pub meets : MeetsEquations net at

pub record IsSimulationOver (net_bytes trace_bytes : List ℕ) (reply : Reply) : Type 0 where
  pub net : Net
  pub trace : SpecTrace
  pub at : CellTable
  pub analysed : AreAnalysed net_bytes trace_bytes net trace at
  pub over : IsTooWide net trace reply

pub record IsRunReport (net_bytes trace_bytes : List ℕ) (reply : Reply) : Type 0 where
  pub net : Net
  pub trace : SpecTrace
  pub at : CellTable
  pub analysed : AreAnalysed net_bytes trace_bytes net trace at
  pub report : IsReportBy run_report_of net trace at reply

-- ---- causes
-- a rule of network files, or a row of the trace
abbrev pub IsMalformed : (net_file net_bytes trace_file trace_bytes : List ℕ) → Reply → Type 0
IsMalformed net_file net_bytes trace_file trace_bytes reply =
    IsBroken net_file net_bytes reply ⊎ IsBadTrace net_bytes trace_file trace_bytes reply

-- what is said of the network that a file gives, of which another gives a trace
abbrev pub BehindTrace : (net_bytes trace_bytes : List ℕ) → (Net → Reply → Type 0) → Reply → Type 0
BehindTrace net_bytes trace_bytes Said =
    Behind (IsNetOf net_bytes) (λ net. Behind (GivesTrace net trace_bytes) (λ trace. Said net))

abbrev pub HasCycleBehind : (net_bytes trace_bytes : List ℕ) → Reply → Type 0
HasCycleBehind net_bytes trace_bytes = BehindTrace net_bytes trace_bytes OnCycle

-- of the curves of the network's file, or else of the cells, the first that is over a limit is over this one
abbrev pub IsOverLimit : OverLimit → List ℕ → List ℕ → Reply → Type 0
IsOverLimit limit net_bytes trace_bytes reply =
    IsCurveOver limit net_bytes reply ⊎ BehindTrace net_bytes trace_bytes (IsNetOver limit) reply
