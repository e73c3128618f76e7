-- Two replies on the same files have one status, and one text unless it tells a cycle.
use Rattle.std.proofs.Common.{◌≡◌, ℕ, List, [], ◌∷◌, map, inl, inr, sym, ap, ◌∙◌, subst}
use Rattle.net_model.specs.declared.edit.Edit.{Edit}
use Rattle.net_model.specs.Accepted.{IsAccepted}
use Rattle.net_model.specs.Networks.{Net}
use Rattle.net_cells.specs.Equations.{MeetsEquations}
use Rattle.input_texts.specs.table_text.Rows.{rows_of}
use Rattle.input_texts.specs.table_text.EditRows.{EditText, edit_view}
use Rattle.input_texts.proofs.table_text.OneEditList.{edits_one, no_edit_list, edit_fault_one}
use Rattle.report_text.specs.declared.json_report.form.Form.{Form}
use Rattle.commands.specs.edit_report.EditReport.{edit_report_in}
use Rattle.commands.specs.edit_report.Said.{EditSaid}
use Rattle.commands.proofs.edit_report.OneForm.{one_edit_report}
use Rattle.command_replies.specs.OnFiles.{OnCycle}
use Rattle.outcomes.specs.Stages.{AreAlike as AllAlike}
use Rattle.command_replies.specs.Replies.{Reply, table_fault_reply}
use Rattle.command_replies.proofs.OneReply.{file_alike, table_alike}
use Rattle.outcomes.proofs.Stages.{one_staged, on_one}
use Rattle.commands.specs.edit.NetHistories.{NetHistory, begun}
use Rattle.commands.specs.edit.Answered.{AreAnswered}
use Rattle.commands.specs.edit.OnEdits.{IsBadListOf, AsksFor, IsEditReportOn, IsReplyOnEdits, IsReplyOnNet}
use Rattle.commands.specs.edit.Laws.{AreSaidAlike, AreSameReports, AreAlike, RepliesAreDetermined}
use Rattle.commands.proofs.edit.NextOne.{next_is_one}
use Rattle.commands.proofs.edit.SameEdits.{answered_alike}
use Rattle.commands.proofs.edit.OneSaid.{said_is_one}

-- ---- edits in turn
record AreSameRows (said others : List EditSaid) (x y : NetHistory) : Type 0 where
  last : x ≡ y
  same : AreSaidAlike said others

rows_same : (old : NetHistory) (es fs : List Edit) (ws vs : List EditSaid) (x y : NetHistory)
    → map edit_view es ≡ map edit_view fs → AreAnswered old es ws x → AreAnswered old fs vs y → AreSameRows ws vs x y
rows_same old [] [] [] [] x y e h k = record { last = h ∙ sym k; same = tt }
rows_same old [] [] [] (v ∷ vs) x y e h k = absurd k
rows_same old [] [] (w ∷ ws) vs x y e h k = absurd h
rows_same old [] (f ∷ fs) ws vs x y e h k = absurd (cc)
rows_same old (d ∷ ds) [] ws vs x y e h k = absurd (cc)
rows_same old (d ∷ ds) (f ∷ fs) [] vs x y e h k = absurd h
rows_same old (d ∷ ds) (f ∷ fs) (w ∷ ws) [] x y e h k = absurd k
rows_same old (d ∷ ds) (f ∷ fs) (w ∷ ws) (v ∷ vs) x y e h k =
    let head : edit_view d ≡ edit_view f = cc in
    let tail : map edit_view ds ≡ map edit_view fs = cc in
    let other = answered_alike old d f head v k.next k.first in
    let next : h.next ≡ k.next = next_is_one old d w v h.next k.next h.first other in
    let moved = subst (λ (n : NetHistory). AreAnswered n fs vs y) (sym next) k.rest in
    let rest = rows_same h.next ds fs ws vs x y tail h.rest moved in
    record { last = rest.last; same = (said_is_one old d w v h.next k.next h.first other, rest.same) }

-- ---- two replies
module _ (form : Form) where
  equal : (x y : Reply) → x ≡ y → AreAlike form x y
  equal x y same = record { status = ap (λ (r : Reply). r.status) same; text = inl (ap (λ (r : Reply). r.bytes) same) }

  one_bad : (edits_file edits_bytes : List ℕ) (x y : Reply) → IsBadListOf edits_file edits_bytes x
      → IsBadListOf edits_file edits_bytes y → x ≡ y
  one_bad edits_file edits_bytes x y h k =
      let both = edit_fault_one edits_bytes h.fault.kind k.fault.kind h.fault.row k.fault.row h.first k.first in
      h.is ∙ ap (λ kind. table_fault_reply edits_file record { kind = kind; row = h.fault.row }) both.0
      ∙ ap (λ row. table_fault_reply edits_file record { kind = k.fault.kind; row = row }) both.1 ∙ sym k.is

  two_cycles : (net : Net) (x y : Reply) → OnCycle net x → OnCycle net y → AreAlike form x y
  two_cycles net x y h k =
      let here : x.status ≡ 8 = ap (λ (r : Reply). r.status) h.is in
      let there : y.status ≡ 8 = ap (λ (r : Reply). r.status) k.is in
      record { status = here ∙ sym there; text = inr (inl here) }

  two_reports : (net : Net) (texts : List EditText) (x y : Reply) → IsEditReportOn form net texts x
      → IsEditReportOn form net texts y → AreAlike form x y
  two_reports net texts x y (edits, asked, left, at, h) (others, wanted, end, other, k) =
      let rows = rows_same (begun net) edits others h.answers k.answers h.last k.last (asked ∙ sym wanted) h.answered
      k.answered in
      let last : end ≡ left = sym k.present ∙ sym (ap (λ (n : NetHistory). n.present) rows.last) ∙ h.present in
      let meets = subst (λ (n : Net). MeetsEquations n other) last k.meets in
      let shown =
      one_edit_report form left h.shown.order at other h.shown.accepted h.shown.ordered h.meets meets in
      let here : x.status ≡ 0 = ap (λ (r : Reply). r.status) h.is in
      let there : y.status ≡ 0 = ap (λ (r : Reply). r.status) k.is in
      let same : AreSameReports form x y = record {
        said = h.answers;
        others = k.answers;
        same = rows.same;
        net = left;
        at = at;
        is = ap (λ (r : Reply). r.bytes) h.is;
        is_other = ap (λ (r : Reply). r.bytes) k.is
            ∙ ap (λ (n : Net). edit_report_in form n other k.answers) last ∙ sym (shown k.answers);
      } in
      record { status = here ∙ sym there; text = inr (inr same) }

  -- ---- by stages
  on_edits : (net : Net) (texts : List EditText) → IsAccepted net
      → AllAlike (AreAlike form) (IsReplyOnEdits form net texts)
  on_edits net texts a =
      table_alike (AreAlike form) equal net (λ table. IsEditReportOn form net texts) a (two_cycles net)
      (λ order o at other x y m n h k. two_reports net texts x y h k)

  on_net : (net : Net) (edits_file edits_bytes : List ℕ) → IsAccepted net
      → AllAlike (AreAlike form) (IsReplyOnNet form net edits_file edits_bytes)
  on_net net edits_file edits_bytes a =
      one_staged (IsBadListOf edits_file edits_bytes) (AsksFor edits_bytes) (IsReplyOnEdits form net) (AreAlike form)
      (λ r texts bad asks. no_edit_list edits_bytes bad.fault.kind bad.fault.row texts bad.first asks.are)
      (λ x y h k. equal x y (one_bad edits_file edits_bytes x y h k))
      (on_one (AsksFor edits_bytes) (IsReplyOnEdits form net) (AreAlike form)
      (λ x y h k. edits_one (rows_of edits_bytes) x y h.are k.are) (λ texts asks. on_edits net texts a))

pub replies_are_determined : RepliesAreDetermined
replies_are_determined form net_file net_bytes edits_file edits_bytes x y h k =
    file_alike (AreAlike form) (equal form) net_file net_bytes (λ net. IsReplyOnNet form net edits_file edits_bytes)
    (λ net given. on_net form net edits_file edits_bytes given.accepted) x y h k
