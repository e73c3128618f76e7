-- What each command that reads a network answers on the bytes of its file, stage by stage: on its first fault; on a cycle
-- of its network; on the first cell over a limit; and else beside a table of all cells.
use Rattle.std.specs.Prelude.{◌≡◌, ◌⊎◌, ℕ, List, map, Err}
use Rattle.upp_limits.specs.LimitTest.{fault_of}
use Rattle.upp_limits.specs.declared.own_limits.OverLimit.{OverLimit}
use Rattle.net_model.specs.Networks.{Net}
use Rattle.net_model.specs.Accepted.{IsAccepted}
use Rattle.net_model.specs.Orders.{IsOrder}
use Rattle.net_model.specs.Walks.{IsCycle}
use Rattle.net_draft.specs.Drafts.{draft_of}
use Rattle.net_draft.specs.Faults.{Fault}
use Rattle.net_text.specs.Becoming.{limit_fault}
use Rattle.net_text.specs.Reading.{IsNetworkOf, CurveFault}
use Rattle.net_cells.specs.declared.cell.Cell.{Cell}
use Rattle.net_cells.specs.Equations.{MeetsEquations}
use Rattle.net_cells.specs.FirstOver.{AnswersAll, FirstOver}
use Rattle.net_cells.specs.Meanings.{CellTable}
use Rattle.net_cells.specs.Order.{evaluation_order}
use Rattle.report_text.specs.CellWords.{server_name, cell_words}
use Rattle.run_watch.specs.simulated_sizes.Laws.{AreCurves}
use Rattle.input_texts.specs.declared.table_text.fault.TableFault.{TableFault}
use Rattle.input_texts.specs.table_text.Traces.{IsFirstFault}
use Rattle.command_replies.specs.Replies.{Reply, breaks_rule, goes_round, curve_over, cell_over, table_fault_reply}
use Rattle.outcomes.specs.Stages.{Staged, Behind}

-- ---- files without a network
-- the first rule that the tables of the file break
pub record IsBroken (file bytes : List ℕ) (reply : Reply) : Type 0 where
  pub fault : Fault
  pub first : draft_of bytes ≡ Err fault
  pub is : reply ≡ breaks_rule file fault

-- they break none, and this is the first curve that is over a limit, a closure in the place of its curve
pub record IsCurveOver (limit : OverLimit) (bytes : List ℕ) (reply : Reply) : Type 0 where
  pub place : List ℕ
  pub first : CurveFault bytes (limit_fault limit place)
  pub is : reply ≡ curve_over limit place

-- the reply on a file that gives no network
abbrev pub IsNoNetwork : List ℕ → List ℕ → Reply → Type 0
IsNoNetwork file bytes reply = IsBroken file bytes reply ⊎ ((limit : OverLimit) × IsCurveOver limit bytes reply)

-- ---- networks
-- the network that the file gives, with all that a network keeps
pub record IsNetOf (bytes : List ℕ) (net : Net) : Type 0 where
  pub reads : IsNetworkOf bytes net
  pub accepted : IsAccepted net

-- the reply on a file: its first fault, or what is said of its network
abbrev pub OnFile : (file bytes : List ℕ) → (Net → Reply → Type 0) → Reply → Type 0
OnFile file bytes Said = Staged (IsNoNetwork file bytes) (IsNetOf bytes) Said

-- ---- of a network
-- the first row of its trace that is wrong, and that row's first fault
pub record IsBadTraceOf (net : Net) (trace_file trace_bytes : List ℕ) (reply : Reply) : Type 0 where
  pub fault : TableFault
  pub first : IsFirstFault net trace_bytes fault.kind fault.row
  pub is : reply ≡ table_fault_reply trace_file fault

-- its flows go round; of its cycles one is told
pub record OnCycle (net : Net) (reply : Reply) : Type 0 where
  pub walk : List ℕ
  pub cycle : IsCycle net walk
  pub is : reply ≡ goes_round (map (server_name net) walk)

-- of the cells in this order of its servers this is the first with an operator over a limit, and it is over this one
pub record OnCellOver (limit : OverLimit) (net : Net) (order : List ℕ) (reply : Reply) : Type 0 where
  pub cell : Cell
  pub first : FirstOver net order cell (fault_of limit)
  pub is : reply ≡ cell_over limit (cell_words net cell)

-- or over any
abbrev pub IsOver : Net → List ℕ → Reply → Type 0
IsOver net order reply = (limit : OverLimit) × OnCellOver limit net order reply

-- each cell has its answer in this table, which so meets the equations
pub record IsTableOf (net : Net) (order : List ℕ) (at : CellTable) : Type 0 where
  pub answers : AnswersAll net at (evaluation_order net order)
  pub meets : MeetsEquations net at

-- the reply where its servers have this order: the first cell over a limit, or what is told beside a table
abbrev pub OnOrder : Net → (CellTable → Reply → Type 0) → List ℕ → Reply → Type 0
OnOrder net Told order = Staged (IsOver net order) (IsTableOf net order) Told

-- the reply on a network: a cycle, or what is told by the order of its servers
abbrev pub OnTable : Net → (CellTable → Reply → Type 0) → Reply → Type 0
OnTable net Told = Staged (OnCycle net) (IsOrder net) (OnOrder net Told)

-- what is told where the network's curves are in normal form, too
abbrev pub OnCurves : Net → (CellTable → Reply → Type 0) → CellTable → Reply → Type 0
OnCurves net Told at reply = AreCurves net × Told at reply

-- ---- of a file
abbrev pub IsBadTrace : (net_bytes trace_file trace_bytes : List ℕ) → Reply → Type 0
IsBadTrace net_bytes trace_file trace_bytes = Behind (IsNetOf net_bytes) (λ net. IsBadTraceOf net trace_file trace_bytes)

abbrev pub HasCycle : List ℕ → Reply → Type 0
HasCycle bytes = Behind (IsNetOf bytes) OnCycle

-- the servers of a network have an order, and by it the first cell over a limit is over this one
abbrev pub IsNetOver : OverLimit → Net → Reply → Type 0
IsNetOver limit net = Behind (IsOrder net) (OnCellOver limit net)

abbrev pub IsCellOver : OverLimit → List ℕ → Reply → Type 0
IsCellOver limit bytes = Behind (IsNetOf bytes) (IsNetOver limit)

-- of the curves of the file, or else of the cells, the first that is over a limit is over this one
abbrev pub IsOverLimit : OverLimit → List ℕ → Reply → Type 0
IsOverLimit limit bytes reply = IsCurveOver limit bytes reply ⊎ IsCellOver limit bytes reply
