-- What is answered on the bytes of a network and of a recorded run of it, stage by stage: on the network's first fault; on
-- the run's first fault; on a cycle of the network; on the first cell over a limit; and else by the check of the run beside
-- a table of all cells.
use Rattle.std.specs.Prelude.{ℕ, List, ◌≡◌, ◌⊎◌}
use Rattle.upp_limits.specs.declared.own_limits.OverLimit.{OverLimit}
use Rattle.run_laws.specs.Runs.{SpecRun}
use Rattle.net_model.specs.Networks.{Net}
use Rattle.net_model.specs.Orders.{IsOrder}
use Rattle.net_cells.specs.Meanings.{CellTable}
use Rattle.net_cells.specs.Equations.{MeetsEquations}
use Rattle.net_cells.specs.FirstOver.{AnswersAll}
use Rattle.net_cells.specs.Order.{evaluation_order}
use Rattle.run_watch.specs.simulated_sizes.Laws.{AreCurves}
use Rattle.input_texts.specs.table_text.Rows.{rows_of}
use Rattle.run_check.specs.declared.run_table.fault.RunFault.{RunFault}
use Rattle.run_check.specs.run_table.Runs.{IsRunOf, IsFirstFault}
use Rattle.command_replies.specs.Replies.{Reply}
use Rattle.command_replies.specs.OnFiles.{IsBroken, IsCurveOver, IsNetOf, OnCycle, IsNetOver, OnFile, OnTable, OnCurves}
use Rattle.outcomes.specs.Stages.{Staged, Behind}
use Rattle.commands.specs.check.Checked.{run_fault_reply, IsTooWide, IsReportOn, IsVerdictReply}

-- ---- runs
-- the first row of the run's file that is wrong, and that row's first fault
pub record IsBadRunOf (net : Net) (run_file run_bytes : List ℕ) (reply : Reply) : Type 0 where
  pub fault : RunFault
  pub first : IsFirstFault net run_bytes fault.kind fault.row
  pub is : reply ≡ run_fault_reply run_file fault

-- ---- all of them
-- the reply on a network and a recorded run of it
abbrev pub IsCheckReplyOnRun : Net → SpecRun → Reply → Type 0
IsCheckReplyOnRun net run = OnTable net (OnCurves net (IsVerdictReply net run))

-- on a network, with a run's name and bytes
abbrev pub IsCheckReplyOnNet : Net → (run_file run_bytes : List ℕ) → Reply → Type 0
IsCheckReplyOnNet net run_file run_bytes =
    Staged (IsBadRunOf net run_file run_bytes) (IsRunOf net (rows_of run_bytes)) (IsCheckReplyOnRun net)

-- on files with these names and bytes
abbrev pub IsCheckReply : (net_file net_bytes run_file run_bytes : List ℕ) → Reply → Type 0
IsCheckReply net_file net_bytes run_file run_bytes =
    OnFile net_file net_bytes (λ net. IsCheckReplyOnNet net run_file run_bytes)

-- ---- checks
-- the network and the run that the files give; the network's servers have an order, and each cell has its answer in this
-- table, which so meets the equations
pub record AreAnalysed (net_bytes run_bytes : List ℕ) (net : Net) (run : SpecRun) (at : CellTable) : Type 0 where
  pub gives : IsNetOf net_bytes net
  pub curves : AreCurves net
  pub reads : IsRunOf net (rows_of run_bytes) run
  pub order : List ℕ
  pub ordered : IsOrder net order
  pub answers : AnswersAll net at (evaluation_order net order)
  pub meets : MeetsEquations net at

pub record IsCheckOver (net_bytes run_bytes : List ℕ) (reply : Reply) : Type 0 where
  pub net : Net
  pub run : SpecRun
  pub at : CellTable
  pub analysed : AreAnalysed net_bytes run_bytes net run at
  pub over : IsTooWide net run reply

pub record IsCheckReport (net_bytes run_bytes : List ℕ) (reply : Reply) : Type 0 where
  pub net : Net
  pub run : SpecRun
  pub at : CellTable
  pub analysed : AreAnalysed net_bytes run_bytes net run at
  pub report : IsReportOn net run at reply

-- ---- causes
abbrev pub IsBadRun : (net_bytes run_file run_bytes : List ℕ) → Reply → Type 0
IsBadRun net_bytes run_file run_bytes = Behind (IsNetOf net_bytes) (λ net. IsBadRunOf net run_file run_bytes)

-- a rule of network files, or a row of the run
abbrev pub IsMalformed : (net_file net_bytes run_file run_bytes : List ℕ) → Reply → Type 0
IsMalformed net_file net_bytes run_file run_bytes reply =
    IsBroken net_file net_bytes reply ⊎ IsBadRun net_bytes run_file run_bytes reply

-- what is said of the network that a file gives, of which another gives a run
abbrev pub BehindRun : (net_bytes run_bytes : List ℕ) → (Net → Reply → Type 0) → Reply → Type 0
BehindRun net_bytes run_bytes Said =
    Behind (IsNetOf net_bytes) (λ net. Behind (IsRunOf net (rows_of run_bytes)) (λ run. Said net))

abbrev pub HasCycleBehind : (net_bytes run_bytes : List ℕ) → Reply → Type 0
HasCycleBehind net_bytes run_bytes = BehindRun net_bytes run_bytes OnCycle

-- of the curves of the network's file, or else of the cells, the first that is over a limit is over this one
abbrev pub IsOverLimit : OverLimit → List ℕ → List ℕ → Reply → Type 0
IsOverLimit limit net_bytes run_bytes reply =
    IsCurveOver limit net_bytes reply ⊎ BehindRun net_bytes run_bytes (IsNetOver limit) reply
