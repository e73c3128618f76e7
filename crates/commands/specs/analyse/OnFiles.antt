-- What is answered on the bytes of a file, stage by stage: on its first fault; on a cycle of its network; on the first cell
-- over a limit; and else by the report beside a table of all cells.
use Rattle.std.specs.Prelude.{◌≡◌, ℕ, List}
use Rattle.net_model.specs.Networks.{Net}
use Rattle.net_model.specs.Orders.{IsOrder}
use Rattle.net_cells.specs.Meanings.{CellTable}
use Rattle.net_cells.specs.Equations.{MeetsEquations}
use Rattle.net_cells.specs.FirstOver.{AnswersAll}
use Rattle.net_cells.specs.Order.{evaluation_order}
use Rattle.command_replies.specs.Replies.{Reply}
use Rattle.report_text.specs.declared.json_report.form.Form.{Form}
use Rattle.report_text.specs.json_report.Forms.{report_in}
use Rattle.command_replies.specs.OnFiles.{IsNetOf, OnFile, OnTable}

-- ---- a report
abbrev pub report : Form → Net → CellTable → Reply
report form net at = record { status = 0; bytes = report_in form net at }

-- its servers have an order, each cell has its answer in this table, which so meets the equations, and the report has
-- the numbers of the table, in this form
pub record IsReportOf (form : Form) (net : Net) (at : CellTable) (bytes : List ℕ) (reply : Reply) : Type 0 where
  pub gives : IsNetOf bytes net
  pub order : List ℕ
  pub ordered : IsOrder net order
  pub answers : AnswersAll net at (evaluation_order net order)
  pub meets : MeetsEquations net at
  pub is : reply ≡ report form net at

abbrev pub IsReport : Form → List ℕ → Reply → Type 0
IsReport form bytes reply = (net : Net) × (at : CellTable) × IsReportOf form net at bytes reply

-- ---- all of them
-- the reply, in this form, on a network
abbrev pub IsReplyOnNet : Form → Net → Reply → Type 0
IsReplyOnNet form net = OnTable net (λ at reply. reply ≡ report form net at)

-- on a file with this name and these bytes, which are not too many
abbrev pub IsReplyOn : Form → (file bytes : List ℕ) → Reply → Type 0
IsReplyOn form file bytes = OnFile file bytes (IsReplyOnNet form)
