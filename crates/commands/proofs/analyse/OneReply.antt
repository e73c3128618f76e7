-- Two replies on one file have one status, and one text unless it tells a cycle; within the limits they are reports.
use Rattle.std.proofs.Common.{◌≡◌, ℕ, List, sym, ap, ◌∙◌}
use Rattle.net_model.specs.Accepted.{IsAccepted}
use Rattle.net_model.specs.Networks.{Net}
use Rattle.net_model.specs.Orders.{IsOrder}
use Rattle.report_text.specs.declared.json_report.form.Form.{Form}
use Rattle.net_cells.specs.Meanings.{CellTable}
use Rattle.report_text.proofs.json_report.OneForm.{one_report_in}
use Rattle.command_replies.specs.OnFiles.{IsTableOf}
use Rattle.command_replies.specs.Replies.{Reply, AreSame}
use Rattle.outcomes.specs.Stages.{AreAlike, GoOnAlike}
use Rattle.command_replies.proofs.OneRefusal.{equal, one_cycle}
use Rattle.command_replies.proofs.OneReply.{file_alike, table_alike, file_reached, table_reached}
use Rattle.command_replies.proofs.Statuses.{status_is}
use Rattle.commands.specs.analyse.Laws.{RepliesAreDetermined, RepliesAreComplete}
use Rattle.commands.specs.analyse.OnFiles.{report, IsReplyOnNet}

-- what is told beside a table
abbrev Told : Form → Net → CellTable → Reply → Type 0
Told form net at reply = reply ≡ report form net at

reports_alike : (form : Form) (net : Net) (order : List ℕ) → IsAccepted net → IsOrder net order
    → GoOnAlike AreSame (IsTableOf net order) (Told form net)
reports_alike form net order a o at other x y m n h k =
    let same = one_report_in form net order at other a o m.meets n.meets in
    equal x y (h ∙ ap (λ bytes. record { status = 0; bytes = bytes }) same ∙ sym k)

on_net : (form : Form) (net : Net) → IsAccepted net → AreAlike AreSame (IsReplyOnNet form net)
on_net form net a =
    table_alike AreSame equal net (Told form net) a (one_cycle net) (λ order o. reports_alike form net order a o)

pub replies_are_determined : RepliesAreDetermined
replies_are_determined form file bytes x y h k =
    file_alike AreSame equal file bytes (IsReplyOnNet form) (λ net given. on_net form net given.accepted) x y h k

pub replies_are_complete : RepliesAreComplete
replies_are_complete form file bytes reply w h =
    let on = file_reached file bytes (IsReplyOnNet form) w.net reply w.reads h in
    let told = table_reached w.net (Told form w.net) reply w.feed_forward w.within on.said in
    status_is reply _ told.1
