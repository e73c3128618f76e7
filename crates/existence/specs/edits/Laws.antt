-- The work of edits, which bounds the steps of their answers, is there where the answers are. Own choice.
use Rattle.std.specs.Prelude.{ℕ, List, map}
use Rattle.net_model.specs.declared.edit.Edit.{Edit}
use Rattle.net_model.specs.Networks.{Net}
use Rattle.net_text.specs.Reading.{IsNetworkOf}
use Rattle.net_cells.specs.Meanings.{CellTable}
use Rattle.report_text.specs.declared.json_report.form.Form.{Form}
use Rattle.input_texts.specs.table_text.EditRows.{edit_view}
use Rattle.command_replies.specs.Replies.{Reply}
use Rattle.commands.specs.edit_report.Said.{EditSaid}
use Rattle.commands.specs.edit.NetHistories.{NetHistory, begun}
use Rattle.commands.specs.edit.Answered.{AreAnswered}
use Rattle.commands.specs.edit.EditCounts.{WorkOfEdits}
use Rattle.commands.specs.edit.OnEdits.{AsksFor, IsReported}

abbrev pub HasWork : NetHistory → List Edit → Type 0
HasWork old edits = (all : ℕ) × (done : ℕ) × WorkOfEdits old edits all done

abbrev pub EditsHaveWork : Type 0
EditsHaveWork =
    (old : NetHistory) (edits : List Edit) (answers : List EditSaid) (last : NetHistory)
    → AreAnswered old edits answers last → HasWork old edits

-- where there is a report, from the file's network on, whichever edits with the texts of its list are counted
abbrev pub ListsHaveWork : Type 0
ListsHaveWork =
    (form : Form) (net : Net) (at : CellTable) (net_bytes edits_bytes : List ℕ) (reply : Reply)
    → IsReported form net at net_bytes edits_bytes reply
    → (first : Net) (edits : List Edit) → IsNetworkOf net_bytes first → AsksFor edits_bytes (map edit_view edits)
    → HasWork (begun first) edits
