-- The reply on a network and edits, and its steps.
use Rattle.std.proofs.Common.{◌≡◌, ◌≢◌, ℕ, ◌+◌, ◌≤◌, List, [], map, refl, sym, ap, subst, arith}
use Rattle.std.specs.Prelude.{Result, Ok, Err, IfOk}
use Rattle.upp_limits.specs.declared.op_kind.OpFault.{OpFault}
use Rattle.net_model.specs.declared.edit.Edit.{Edit}
use Rattle.net_model.specs.Accepted.{IsAccepted}
use Rattle.net_model.specs.Networks.{Net}
use Rattle.net_model.specs.Orders.{IsOrder}
use Rattle.net_model.proofs.net_graph.OneOrders.{one_order}
use Rattle.net_model.proofs.net_graph.Returns.{order_or_cycle}
use Rattle.net_cells.specs.declared.cell.Cell.{Cell}
use Rattle.net_cells.specs.FirstOver.{FirstOver}
use Rattle.net_cells.specs.Equations.{MeetsEquations}
use Rattle.net_cells.specs.Meanings.{Meaning, CellTable}
use Rattle.input_texts.specs.table_text.EditRows.{edit_view}
use Rattle.cell_rules.specs.cell_values.Edits.{IsFirst}
use Rattle.cell_rules.specs.cell_values.Placed.{placed}
use Rattle.cell_store.specs.edit_store.Stored.{Stored, IsStored}
use Rattle.net_cells.proofs.Tables.{answers_meet}
use Rattle.report_text.specs.declared.json_report.form.Form.{Form}
use Rattle.commands.specs.edit_report.Said.{EditSaid}
use Rattle.command_replies.specs.CellWork.{work_of_cells}
use Rattle.command_replies.specs.Replies.{Reply}
use Rattle.replies.specs.declared.answer.Answer.{Answer}
use Rattle.command_replies.specs.View.{status_of}
use Rattle.commands.specs.edit.NetHistories.{NetHistory, begun, history_of}
use Rattle.commands.specs.edit.Answered.{AreAnswered}
use Rattle.outcomes.specs.Stages.{goes_on}
use Rattle.commands.specs.edit.OnEdits.{edit_report, AreReported, IsReplyOnEdits}
use Rattle.commands.specs.edit.EditCounts.{WorkOfEdits, CountsOnEdits}
use Rattle.commands.proofs.edit.OneRow.{analysed}

-- ---- replies
pub on_report : (form : Form) (net : Net) (edits : List Edit) (reply : Reply)
    → ((last : Net) × (at : CellTable) × AreReported form net edits last at reply)
    → IsReplyOnEdits form net (map edit_view edits) reply
on_report form net edits reply (last, at, told) =
    let a = told.analysed in
    let meets = answers_meet net a.order told.table a.accepted a.ordered a.answers in
    goes_on a.order a.ordered (goes_on told.table record { answers = a.answers; meets = meets }
    (edits, refl, last, at, told))

-- a call that ends with a report has what its answer has
pub at_zero : {E : Type 0} (r : Result Answer E) (P : Type 0) → IfOk r (λ a. P) → status_of r ≡ 0 → P
at_zero (Ok a) P holds zero = holds
at_zero (Err e) P holds zero = absurd (cc)

-- ---- steps
-- first those of all cells, and then those of the edits
pub record RowsSteps (net : Net) (edits : List Edit) (status mid new : ℕ) : Type 0 where
  pub rises : mid ≤ new
  pub most : (all done : ℕ) → WorkOfEdits (begun net) edits all done → new ≤ mid + all
  pub least : status ≡ 0 → (all done : ℕ) → WorkOfEdits (begun net) edits all done → mid + done ≤ new

pub by_order : (net : Net) (edits : List Edit) (order : List ℕ) (status old mid new : ℕ) → IsAccepted net
    → IsOrder net order → mid ≡ old + work_of_cells net order → RowsSteps net edits status mid new
    → CountsOnEdits net edits status old new
by_order net edits order status old mid new a o cells rows = record {
  rises = omega (arith, rows.rises, cells);
  most = λ other all done p w.
      let same = one_order net order other o p in
      let most = rows.most all done w in
      subst (λ (xs : List ℕ). new ≤ old + (work_of_cells net xs + all)) same (omega (arith, most, cells));
  report = λ zero other all done p w.
      let same = one_order net order other o p in
      let least = rows.least zero all done w in
      subst (λ (xs : List ℕ). old + (work_of_cells net xs + done) ≤ new) same (omega (arith, least, cells));
  round = λ walk c. absurd (order_or_cycle.no_cycle net order walk a o c);
}

-- or only some of those of the cells, and no report
pub by_some_cells : (net : Net) (edits : List Edit) (order : List ℕ) (status old new : ℕ) → IsAccepted net
    → IsOrder net order → old ≤ new → new ≤ old + work_of_cells net order → status ≢ 0
    → CountsOnEdits net edits status old new
by_some_cells net edits order status old new a o rises within other = record {
  rises = rises;
  most = λ xs all done p w.
      let same = one_order net order xs o p in
      subst (λ (ys : List ℕ). new ≤ old + (work_of_cells net ys + all)) same (omega (arith, within));
  report = λ zero xs all done p w. absurd (other zero);
  round = λ walk c. absurd (order_or_cycle.no_cycle net order walk a o c);
}

-- ---- a network and its copy, which a store takes
pub first_of_copy : (net copied : Net) (order : List ℕ) (cell : Cell) (fault : OpFault) → copied ≡ net → IsOrder net order
    → IsFirst copied cell fault → FirstOver net order cell fault
first_of_copy net copied order cell fault same ordered first =
    subst (λ (n : Net). IsFirst n cell fault) same first order ordered

-- some steps of the cells of the copy, and no report
pub by_cells_of_copy : (net copied : Net) (edits : List Edit) (order : List ℕ) (status old new : ℕ) → copied ≡ net
    → IsAccepted net → IsOrder net order → old ≤ new → new ≤ old + work_of_cells copied order → status ≢ 0
    → CountsOnEdits net edits status old new
by_cells_of_copy net copied edits order status old new same a o rises within other =
    by_some_cells net edits order status old new a o rises
    (subst (λ (n : Net). new ≤ old + work_of_cells n order) same within) other

-- the status of want of memory
pub no_memory : (status : ℕ) → status ≡ 5 → status ≢ 0
no_memory status memory zero = absurd (cc)

-- ---- a report
-- the networks of a store of one network alone
pub only_one : {V : Type 0} (s : Stored V) → s.before ≡ [] → history_of s ≡ begun s.present
only_one s none = ap (λ (ns : List Net). let h : NetHistory = record { before = ns; present = s.present } in h) none

pub reported_is : {V : Type 0} (form : Form) (meaning : V → Meaning) (first last : Stored V) (edits : List Edit)
    (answers : List EditSaid) (reply : Reply) → first.before ≡ [] → IsAccepted first.present
    → IsStored meaning first.before first.present first.values
    → AreAnswered (history_of first) edits answers (history_of last) → IsAccepted last.present
    → IsStored meaning last.before last.present last.values
    → MeetsEquations last.present (placed meaning last.values.newest)
    → reply ≡ edit_report form last.present (placed meaning last.values.newest) answers
    → (net : Net) × (at : CellTable) × AreReported form first.present edits net at reply
reported_is {V} form meaning first last edits answers reply none accepted stored answered accepted_last stored_last meets is =
    let report : AreReported form first.present edits last.present (placed meaning last.values.newest) reply = record {
      table = placed meaning first.values.newest;
      analysed = analysed meaning first.present first.values.newest accepted stored.now;
      answers = answers;
      last = history_of last;
      answered = subst (λ (h : NetHistory). AreAnswered h edits answers (history_of last)) (only_one first none) answered;
      present = refl;
      shown = analysed meaning last.present last.values.newest accepted_last stored_last.now;
      meets = meets;
      is = is;
    } in
    (last.present, placed meaning last.values.newest, report)

-- the work of edits of a store of one network alone
pub work_of_begun : {V : Type 0} (s : Stored V) (edits : List Edit) (all done : ℕ) → s.before ≡ []
    → WorkOfEdits (begun s.present) edits all done → WorkOfEdits (history_of s) edits all done
work_of_begun s edits all done none w =
    subst (λ (h : NetHistory). WorkOfEdits h edits all done) (sym (only_one s none)) w
