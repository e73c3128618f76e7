-- Of the replies on a network's file and a list of edits, those of each status.
use Rattle.std.specs.Prelude.{◌⊎◌, ℕ, List}
use Rattle.upp_limits.specs.declared.own_limits.OverLimit.{OverLimit}
use Rattle.upp_limits.specs.declared.own_limits.OverLimit.TheVariants.{TooMany, TooWide}
use Rattle.input_texts.specs.table_text.EditRows.{EditText}
use Rattle.report_text.specs.declared.json_report.form.Form.{Form}
use Rattle.command_replies.specs.Causes as causes
use Rattle.command_replies.specs.Causes.{NoReply}
use Rattle.command_replies.specs.Replies.{Reply}
use Rattle.command_replies.specs.OnFiles.{IsBroken, IsCurveOver, HasCycle, IsCellOver}
use Rattle.commands.specs.edit.OnEdits.{AsksFor, IsBadList, IsEditReport, IsEditReply}

-- the list has no fault
abbrev pub HasEdits : List ℕ → Type 0
HasEdits edits_bytes = (edits : List EditText) × AsksFor edits_bytes edits

-- a rule of network files, or a row of the list
abbrev pub IsMalformed : (net_file net_bytes edits_file edits_bytes : List ℕ) → Reply → Type 0
IsMalformed net_file net_bytes edits_file edits_bytes reply =
    IsBroken net_file net_bytes reply ⊎ IsBadList net_bytes edits_file edits_bytes reply

-- of the curves of the network's file, or else of the cells of its network, the first that is over a limit is over
-- this one
abbrev pub IsOverLimit : OverLimit → List ℕ → List ℕ → Reply → Type 0
IsOverLimit limit net_bytes edits_bytes reply =
    IsCurveOver limit net_bytes reply ⊎ (HasEdits edits_bytes × IsCellOver limit net_bytes reply)

-- the network of the file has a cycle
abbrev pub HasCycleBehind : List ℕ → List ℕ → Reply → Type 0
HasCycleBehind net_bytes edits_bytes reply = HasEdits edits_bytes × HasCycle net_bytes reply

-- each status has its cause, and there is no other
abbrev pub HasCause : Form → (net_file net_bytes edits_file edits_bytes : List ℕ) → Reply → Type 0
HasCause form net_file net_bytes edits_file edits_bytes =
    causes.HasCause (IsEditReport form net_bytes edits_bytes) NoReply
    (IsMalformed net_file net_bytes edits_file edits_bytes) (IsOverLimit TooWide net_bytes edits_bytes)
    (IsOverLimit TooMany net_bytes edits_bytes) (HasCycleBehind net_bytes edits_bytes)

abbrev pub StatusesHaveCauses : Type 0
StatusesHaveCauses =
    (form : Form) (net_file net_bytes edits_file edits_bytes : List ℕ) (reply : Reply)
    → IsEditReply form net_file net_bytes edits_file edits_bytes reply
    → HasCause form net_file net_bytes edits_file edits_bytes reply
