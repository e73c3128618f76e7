-- What holds of the replies on edits: the guarantee, and completeness.
use Rattle.net_bounds.proofs.Kept.{table_bounds_every_run}
use Rattle.input_texts.specs.table_text.Rows.{rows_of}
use Rattle.input_texts.proofs.table_text.OneEditList.{edits_one, no_edit_list}
use Rattle.command_replies.proofs.OneReply.{file_reached, table_reached}
use Rattle.outcomes.proofs.Stages.{reached}
use Rattle.command_replies.proofs.Statuses.{status_is}
use Rattle.commands.specs.edit.OnEdits.{IsBadListOf, AsksFor, IsEditReportOn, IsReplyOnEdits, IsReplyOnNet}
use Rattle.commands.specs.edit.Laws.{ReportsGuarantee, RepliesAreComplete}

pub reports_guarantee : ReportsGuarantee
reports_guarantee form net at net_bytes edits_bytes reply h =
    λ run is. table_bounds_every_run net h.report.shown.order at run h.report.shown.accepted h.report.shown.ordered
    h.report.meets is

pub replies_are_complete : RepliesAreComplete
replies_are_complete form net_file net_bytes edits_file edits_bytes reply w h =
    let on =
    file_reached net_file net_bytes (λ net. IsReplyOnNet form net edits_file edits_bytes) w.net reply w.reads h in
    let asked =
    reached (IsBadListOf edits_file edits_bytes) (AsksFor edits_bytes) (IsReplyOnEdits form w.net) w.edits reply
    (λ bad. no_edit_list edits_bytes bad.fault.kind bad.fault.row w.edits bad.first w.asked.are)
    (λ other asks. edits_one (rows_of edits_bytes) other w.edits asks.are w.asked.are) on.said in
    let told =
    table_reached w.net (λ table. IsEditReportOn form w.net w.edits) reply w.feed_forward w.within asked in
    status_is reply _ told.1.4.is
