-- What holds of the replies on a file.
use Rattle.std.specs.Prelude.{◌≡◌, ℕ, List, Some, codes}
use Rattle.rational.specs.declared.Extended.TheVariants.{Inf}
use Rattle.upp_limits.specs.declared.op_kind.OpFault.{OpFault}
use Rattle.upp_limits.specs.declared.own_limits.OverLimit.TheVariants.{TooMany, TooWide}
use Rattle.net_model.specs.Networks.{Net}
use Rattle.net_model.specs.Orders.{IsOrder}
use Rattle.net_model.specs.Walks.{IsFeedForward}
use Rattle.net_text.specs.Reading.{IsNetworkOf}
use Rattle.net_cells.specs.declared.cell.Cell.{Cell}
use Rattle.net_cells.specs.Meanings.{number, CellTable}
use Rattle.net_cells.specs.FirstOver.{FirstOver}
use Rattle.report_text.specs.Shown.{shown}
use Rattle.report_text.specs.declared.json_report.form.Form.{Form}
use Rattle.command_replies.specs.Causes as causes
use Rattle.command_replies.specs.Causes.{NoReply}
use Rattle.command_replies.specs.OnFiles.{IsBroken, IsOverLimit, HasCycle}
use Rattle.command_replies.specs.Replies.{Reply, AreSame}
use Rattle.commands.specs.analyse.OnFiles.{IsReport, IsReplyOn}

-- the file and the form determine the status, and the text unless it tells a cycle
abbrev pub RepliesAreDetermined : Type 0
RepliesAreDetermined =
    (form : Form) (file bytes : List ℕ) (x y : Reply) → IsReplyOn form file bytes x → IsReplyOn form file bytes y
    → AreSame x y

-- each status has its cause, and there is no other
abbrev pub HasCause : Form → (file bytes : List ℕ) → Reply → Type 0
HasCause form file bytes =
    causes.HasCause (IsReport form bytes) NoReply (IsBroken file bytes) (IsOverLimit TooWide bytes)
    (IsOverLimit TooMany bytes) (HasCycle bytes)

abbrev pub StatusesHaveCauses : Type 0
StatusesHaveCauses =
    (form : Form) (file bytes : List ℕ) (reply : Reply) → IsReplyOn form file bytes reply
    → HasCause form file bytes reply

-- a file that gives a network without a cycle, and by no order of its servers a cell is over a limit
pub record IsWithinLimits (bytes : List ℕ) : Type 0 where
  pub net : Net
  pub reads : IsNetworkOf bytes net
  pub feed_forward : IsFeedForward net
  pub within : (order : List ℕ) (c : Cell) (fault : OpFault) → IsOrder net order → ¬ (FirstOver net order c fault)

-- its one reply is a report
abbrev pub RepliesAreComplete : Type 0
RepliesAreComplete =
    (form : Form) (file bytes : List ℕ) (reply : Reply) → IsWithinLimits bytes → IsReplyOn form file bytes reply
    → reply.status ≡ 0

-- where `unbounded` is shown for a cell, its number is infinite
abbrev pub UnboundedIsInfinite : Type 0
UnboundedIsInfinite =
    (at : CellTable) (c : Cell) → shown at c.kind c.a c.b ≡ codes "unbounded" → at c ≡ Some (number Inf)
