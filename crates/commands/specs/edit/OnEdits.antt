-- What is answered on the bytes of a network's file and of a list of edits, stage by stage: on the network's first fault; on
-- the list's; on a cycle of the network; on its first cell over a limit; and else by the report on the edits.
use Rattle.std.specs.Prelude.{◌≡◌, ℕ, List, map}
use Rattle.net_model.specs.declared.edit.Edit.{Edit}
use Rattle.net_model.specs.Networks.{Net}
use Rattle.net_cells.specs.Meanings.{CellTable}
use Rattle.net_cells.specs.Equations.{MeetsEquations}
use Rattle.input_texts.specs.declared.table_text.fault.TableFault.{TableFault}
use Rattle.input_texts.specs.table_text.Rows.{rows_of}
use Rattle.input_texts.specs.table_text.EditRows.{EditText, edit_view}
use Rattle.input_texts.specs.table_text.EditLists.{AreEditsOf, IsFirstEditFault}
use Rattle.report_text.specs.declared.json_report.form.Form.{Form}
use Rattle.commands.specs.edit_report.EditReport.{edit_report_in}
use Rattle.commands.specs.edit_report.Said.{EditSaid}
use Rattle.command_replies.specs.Replies.{Reply, table_fault_reply}
use Rattle.command_replies.specs.OnFiles.{IsNetOf, OnFile, OnTable}
use Rattle.outcomes.specs.Stages.{Staged, Behind}
use Rattle.commands.specs.edit.NetHistories.{NetHistory, begun}
use Rattle.commands.specs.edit.Answered.{IsAnalysed, AreAnswered}

-- ---- lists of edits
-- the list has a fault, and this is the first
pub record IsBadListOf (edits_file edits_bytes : List ℕ) (reply : Reply) : Type 0 where
  pub fault : TableFault
  pub first : IsFirstEditFault edits_bytes fault.kind fault.row
  pub is : reply ≡ table_fault_reply edits_file fault

abbrev pub IsBadList : (net_bytes edits_file edits_bytes : List ℕ) → Reply → Type 0
IsBadList net_bytes edits_file edits_bytes = Behind (IsNetOf net_bytes) (λ net. IsBadListOf edits_file edits_bytes)

-- it has none: it asks for these edits
pub record AsksFor (edits_bytes : List ℕ) (edits : List EditText) : Type 0 where
  pub are : AreEditsOf (rows_of edits_bytes) edits

-- ---- a report
abbrev pub edit_report : Form → Net → CellTable → List EditSaid → Reply
edit_report form net at answers = record { status = 0; bytes = edit_report_in form net at answers }

-- no cell of a network is over a limit; edits have these answers, one after the other, and leave a network that is told
-- with the numbers of a table of it, which meets its equations, in this form
pub record AreReported (form : Form) (first : Net) (edits : List Edit) (net : Net) (at : CellTable)
    (reply : Reply) : Type 0 where
  pub table : CellTable
  pub analysed : IsAnalysed first table
  pub answers : List EditSaid
  pub last : NetHistory
  pub answered : AreAnswered (begun first) edits answers last
  pub present : last.present ≡ net
  pub shown : IsAnalysed net at
  pub meets : MeetsEquations net at
  pub is : reply ≡ edit_report form net at answers

-- so it is for the network of the file and the edits that the list asks for
pub record IsReported (form : Form) (net : Net) (at : CellTable) (net_bytes edits_bytes : List ℕ)
    (reply : Reply) : Type 0 where
  pub first : Net
  pub gives : IsNetOf net_bytes first
  pub edits : List Edit
  pub asked : AsksFor edits_bytes (map edit_view edits)
  pub report : AreReported form first edits net at reply

abbrev pub IsEditReport : Form → List ℕ → List ℕ → Reply → Type 0
IsEditReport form net_bytes edits_bytes reply =
    (net : Net) × (at : CellTable) × IsReported form net at net_bytes edits_bytes reply

-- ---- all of them
-- the report on a network and edits with these texts
abbrev pub IsEditReportOn : Form → Net → List EditText → Reply → Type 0
IsEditReportOn form net texts reply =
    (edits : List Edit) × (map edit_view edits ≡ texts) × (last : Net) × (at : CellTable)
    × AreReported form net edits last at reply

-- the reply, in this form, on a network and edits
abbrev pub IsReplyOnEdits : Form → Net → List EditText → Reply → Type 0
IsReplyOnEdits form net texts = OnTable net (λ table. IsEditReportOn form net texts)

-- on a network, with a list's name and bytes
abbrev pub IsReplyOnNet : Form → Net → (edits_file edits_bytes : List ℕ) → Reply → Type 0
IsReplyOnNet form net edits_file edits_bytes =
    Staged (IsBadListOf edits_file edits_bytes) (AsksFor edits_bytes) (IsReplyOnEdits form net)

-- on files with these names and bytes
abbrev pub IsEditReply : Form → (net_file net_bytes edits_file edits_bytes : List ℕ) → Reply → Type 0
IsEditReply form net_file net_bytes edits_file edits_bytes =
    OnFile net_file net_bytes (λ net. IsReplyOnNet form net edits_file edits_bytes)
