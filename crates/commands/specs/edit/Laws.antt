-- What holds of the replies on a network's file and a list of edits.
use Rattle.std.specs.Prelude.{◌≡◌, ◌⊎◌, ◌++◌, ℕ, List, [], ◌∷◌, map, codes}
use Rattle.upp_limits.specs.declared.op_kind.OpFault.{OpFault}
use Rattle.net_model.specs.Networks.{Net}
use Rattle.net_model.specs.Orders.{IsOrder}
use Rattle.net_model.specs.Accepted.{IsAccepted}
use Rattle.net_model.specs.Walks.{IsCycle, IsFeedForward}
use Rattle.net_text.specs.Reading.{IsNetworkOf}
use Rattle.net_cells.specs.declared.cell.Cell.{Cell}
use Rattle.net_cells.specs.FirstOver.{FirstOver}
use Rattle.net_cells.specs.Meanings.{CellTable}
use Rattle.input_texts.specs.table_text.EditRows.{EditText}
use Rattle.report_text.specs.Refusals.{spaced}
use Rattle.report_text.specs.CellWords.{server_name}
use Rattle.report_text.specs.declared.json_report.form.Form.{Form}
use Rattle.commands.specs.edit_report.EditReport.{edit_report_in}
use Rattle.commands.specs.edit_report.Said.{EditSaid, Refused}
use Rattle.command_replies.specs.Guarantee.{Guarantees}
use Rattle.command_replies.specs.Replies.{Reply}
use Rattle.commands.specs.edit.OnEdits.{AsksFor, IsReported, IsEditReply}

-- ---- the guarantee
-- what a report shows of the network after the edits is kept in every run of it
abbrev pub ReportsGuarantee : Type 0
ReportsGuarantee =
    (form : Form) (net : Net) (at : CellTable) (net_bytes edits_bytes : List ℕ) (reply : Reply)
    → IsReported form net at net_bytes edits_bytes reply → Guarantees net at

-- ---- completeness
-- the file gives a network without a cycle, by no order of its servers a cell is over a limit, and the list has no
-- fault
pub record IsWithinLimits (net_bytes edits_bytes : List ℕ) : Type 0 where
  pub net : Net
  pub reads : IsNetworkOf net_bytes net
  pub feed_forward : IsFeedForward net
  pub within : (order : List ℕ) (c : Cell) (fault : OpFault) → IsOrder net order → ¬ (FirstOver net order c fault)
  pub edits : List EditText
  pub asked : AsksFor edits_bytes edits

-- their one reply is a report, whatever the edits are
abbrev pub RepliesAreComplete : Type 0
RepliesAreComplete =
    (form : Form) (net_file net_bytes edits_file edits_bytes : List ℕ) (reply : Reply)
    → IsWithinLimits net_bytes edits_bytes → IsEditReply form net_file net_bytes edits_file edits_bytes reply
    → reply.status ≡ 0

-- ---- one reply
-- what is said tells of a cycle of this network, by some walk
pub record TellsCycle (net : Net) (said : EditSaid) : Type 0 where
  pub accepted : IsAccepted net
  pub walk : List ℕ
  pub cycle : IsCycle net walk
  pub is : said ≡ Refused (codes "cycle" ++ spaced (map (server_name net) walk))

-- both tell of a cycle, of one network
pub record TellCycles (x y : EditSaid) : Type 0 where
  pub net : Net
  pub one : TellsCycle net x
  pub other : TellsCycle net y

-- the same is said of each edit, or of both a cycle of one network
abbrev pub AreSaidAlike : List EditSaid → List EditSaid → Type 0
AreSaidAlike [] [] = Unit {0}
AreSaidAlike [] (y ∷ ys) = ⊥
AreSaidAlike (x ∷ xs) [] = ⊥
AreSaidAlike (x ∷ xs) (y ∷ ys) = ((x ≡ y) ⊎ TellCycles x y) × AreSaidAlike xs ys

-- two reports: what is said of each edit, and one table of one network
pub record AreSameReports (form : Form) (x y : Reply) : Type 0 where
  pub said : List EditSaid
  pub others : List EditSaid
  pub same : AreSaidAlike said others
  pub net : Net
  pub at : CellTable
  pub is : x.bytes ≡ edit_report_in form net at said
  pub is_other : y.bytes ≡ edit_report_in form net at others

-- one status; and one text, or each tells a cycle of the network, or of edited ones in the reports
pub record AreAlike (form : Form) (x y : Reply) : Type 0 where
  pub status : x.status ≡ y.status
  pub text : (x.bytes ≡ y.bytes) ⊎ ((x.status ≡ 8) ⊎ AreSameReports form x y)

-- the files and the form determine the status, and the text unless it tells a cycle
abbrev pub RepliesAreDetermined : Type 0
RepliesAreDetermined =
    (form : Form) (net_file net_bytes edits_file edits_bytes : List ℕ) (x y : Reply)
    → IsEditReply form net_file net_bytes edits_file edits_bytes x
    → IsEditReply form net_file net_bytes edits_file edits_bytes y → AreAlike form x y
