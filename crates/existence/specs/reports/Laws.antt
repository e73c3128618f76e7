-- There is a reply on each file; it is a report where the file gives a network that has an order and no cell over a limit,
-- and every run keeps it. Own choice.
use Rattle.std.specs.Prelude.{◌⊎◌, ℕ, List}
use Rattle.rational.specs.Rational.{ℚ, ◌≤ℚ◌}
use Rattle.min_plus.specs.Functions.{zero_q}
use Rattle.net_model.specs.Networks.{Net}
use Rattle.net_model.specs.Orders.{IsOrder}
use Rattle.net_cells.specs.Meanings.{CellTable}
use Rattle.report_text.specs.declared.json_report.form.Form.{Form}
use Rattle.command_replies.specs.Replies.{Reply}
use Rattle.command_replies.specs.OnFiles.{IsNetOf, IsNoNetwork}
use Rattle.command_replies.specs.Guarantee.{Guarantees}
use Rattle.commands.specs.analyse.OnFiles.{IsReplyOn, IsReportOf}
use Rattle.commands.specs.measure.OnMeasures.{IsMeasureReply}
use Rattle.existence.specs.tables.Networks.{NoneIsOver}

abbrev pub FilesHaveReports : Type 0
FilesHaveReports =
    (form : Form) (bytes : List ℕ) (net : Net) (order : List ℕ) → IsNetOf bytes net → IsOrder net order → NoneIsOver net order
    → (at : CellTable) × (reply : Reply) × IsReportOf form net at bytes reply × Guarantees net at

-- ---- replies
-- of each file, whatever its bytes are: the first rule that its tables break, the first curve over a limit, its network's
-- cycle, the first cell over a limit, or the report; so no want of memory stands in for a reply
abbrev pub FilesHaveReplies : Type 0
FilesHaveReplies = (form : Form) (file bytes : List ℕ) → (reply : Reply) × IsReplyOn form file bytes reply

-- ---- other commands
-- the first stage of each command that reads a network: the file gives none, and what is answered then, or one
abbrev pub StopsOrGives : List ℕ → List ℕ → Type 0
StopsOrGives file bytes = ((reply : Reply) × IsNoNetwork file bytes reply) ⊎ ((net : Net) × IsNetOf bytes net)

abbrev pub FirstStagesEnd : Type 0
FirstStagesEnd = (file bytes : List ℕ) → StopsOrGives file bytes

-- `measure`, whatever the files and the name are
abbrev pub MeasuresHaveReplies : Type 0
MeasuresHaveReplies =
    (net_file net_bytes trace_file trace_bytes name : List ℕ) (rate : ℚ) → zero_q ≤ℚ rate
    → (reply : Reply) × IsMeasureReply net_file net_bytes trace_file trace_bytes name rate reply
