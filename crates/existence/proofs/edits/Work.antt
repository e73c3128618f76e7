-- The work of edits that have answers: what is touched by those that are taken, or have a cell over a limit; else none.
use Rattle.std.proofs.Common.{◌≡◌, ℕ, ◌+◌, List, [], ◌∷◌, map, sum_by, inl, inr, refl, sym, ap, ◌∙◌, subst}
use Rattle.std.specs.Prelude.{string_bytes}
use Rattle.upp_limits.specs.declared.own_limits.OverLimit.{OverLimit}
use Rattle.upp_limits.specs.declared.own_limits.OverLimit.TheVariants as limit
use Rattle.net_model.specs.declared.edit.Edit.{Edit}
use Rattle.net_model.specs.Networks.{Net}
use Rattle.net_model.specs.Orders.{IsOrder}
use Rattle.net_model.proofs.net_graph.Returns.{order_or_cycle}
use Rattle.net_cells.specs.declared.cell.Cell.{Cell}
use Rattle.net_cells.specs.Work.{work}
use Rattle.net_edits.specs.declared.fault.EditFault.{EditFault}
use Rattle.net_edits.specs.declared.fault.EditFault.TheVariants.{UnknownName, NameTaken, BadValue, LimitReached, Cycle, TooMany, TooWide, NothingToUndo, NoMemory}
use Rattle.net_edits.specs.Refusals.{unknown_name, name_taken, bad_value, no_number_left}
use Rattle.net_edits.specs.Edited.{edited}
use Rattle.cell_store.specs.edit_store.Applied.{IsEvaluated, IsWorkOf}
use Rattle.cell_store.proofs.edit_store.Steps.{gives_one}
use Rattle.commands.specs.edit_report.Said.{EditSaid}
use Rattle.input_texts.specs.table_text.Rows.{rows_of}
use Rattle.input_texts.specs.table_text.EditRows.{edit_view}
use Rattle.input_texts.proofs.table_text.OneEditList.{edits_one}
use Rattle.commands.specs.edit.NetHistories.{NetHistory, begun}
use Rattle.commands.specs.edit.Causes.{GoesRound, IsOverBy, IsCause}
use Rattle.commands.specs.edit.Answered.{IsAnswered, Taken, Undone, Refused, AreAnswered}
use Rattle.commands.specs.edit.EditCounts.{IsTakenWork}
use Rattle.commands.proofs.edit.Exclusive.{gives_not_over, gives_not_refused, undo_gives_none, nothing_pushed}
use Rattle.commands.proofs.edit.SameEdits.{answered_alike}
use Rattle.net_text.proofs.OneThing.{each_file_says_one_thing}
use Rattle.existence.specs.edits.Laws.{HasWork, EditsHaveWork, ListsHaveWork}

-- ---- one edit
abbrev EditHasWork : Net → Edit → Type 0
EditHasWork present edit = (count : ℕ) × IsWorkOf present edit count

none : (present : Net) (edit : Edit) → ¬ (IsEvaluated present edit) → EditHasWork present edit
none present edit h = (0, inr (h, refl))

round : (present : Net) (edit : Edit) (walk : List ℕ) (net : Net) → GoesRound present edit walk net → EditHasWork present edit
round present edit walk net c = none present edit (λ e.
    let one : net ≡ e.net = gives_one present edit net e.net c.gives e.gives in
    let order : IsOrder net e.order = subst (λ (n : Net). IsOrder n e.order) (sym one) e.servers in
    order_or_cycle.no_cycle net e.order walk c.accepted order c.cycle)

over : (present : Net) (edit : Edit) (cell : Cell) (which : OverLimit) (net : Net) → IsOverBy present edit cell which net
    → EditHasWork present edit
over present edit cell which net (inl o) =
    none present edit (λ e. gives_not_over (edited present edit) e.net cell which e.gives o.0)
over present edit cell which net (inr h) = (
  sum_by (work net) h.all_touched,
  inl record { net = net; gives = h.gives; touched = h.all_touched; are = h.are; is = refl },
)

by_cause : (old : NetHistory) (edit : Edit) (fault : EditFault) (net : Net) → IsCause old edit fault net
    → EditHasWork old.present edit
by_cause old edit (UnknownName name) net c = none old.present edit (λ e.
    gives_not_refused (edited old.present edit) e.net (unknown_name (string_bytes name)) e.gives c)
by_cause old edit (NameTaken name) net c = none old.present edit (λ e.
    gives_not_refused (edited old.present edit) e.net (name_taken (string_bytes name)) e.gives c)
by_cause old edit BadValue net c = none old.present edit (λ e.
    gives_not_refused (edited old.present edit) e.net bad_value e.gives c)
by_cause old edit LimitReached net c = none old.present edit (λ e.
    gives_not_refused (edited old.present edit) e.net no_number_left e.gives c)
by_cause old edit (Cycle walk) net c = round old.present edit walk.items net c
by_cause old edit (TooMany cell) net c = over old.present edit cell limit.TooMany net c
by_cause old edit (TooWide cell) net c = over old.present edit cell limit.TooWide net c
by_cause old edit NothingToUndo net c = none old.present edit (λ e.
    undo_gives_none old.present e.net edit c.0 e.gives)
by_cause old edit NoMemory net c = absurd c

work_of : (old new : NetHistory) (edit : Edit) (said : EditSaid) → IsAnswered old edit said new
    → EditHasWork old.present edit
work_of old new edit said (Taken h) = (
  sum_by (work new.present) h.touched,
  inl record { net = new.present; gives = h.gives; touched = h.touched; are = h.are; is = refl },
)
work_of old new edit said (Undone h) = none old.present edit (λ e.
    undo_gives_none old.present e.net edit h.undo e.gives)
work_of old new edit said (Refused h) = by_cause old edit h.fault h.named_by h.cause

-- all of it where the edit is taken: an undo makes no network of one alone, and a refusal puts none on top
taken_of : (old new : NetHistory) (edit : Edit) (said : EditSaid) (count : ℕ) → IsAnswered old edit said new
    → (done : ℕ) × IsTakenWork old edit new count done
taken_of old new edit said count (Taken h) = (count, inl ((said, h), refl))
taken_of old new edit said count (Undone h) =
    (0, inr ((λ t. undo_gives_none old.present new.present edit h.undo t.1.gives), refl))
taken_of old new edit said count (Refused h) = (
  0,
  inr ((λ t. nothing_pushed old.before old.present (sym (ap (λ (n : NetHistory). n.before) h.same) ∙ t.1.before)), refl),
)

-- ---- edits in turn
pub edits_have_work : EditsHaveWork
edits_have_work old [] [] last h = (0, 0, (refl, refl))
edits_have_work old [] (said ∷ more) last h = absurd h
edits_have_work old (edit ∷ edits) [] last h = absurd h
edits_have_work old (edit ∷ edits) (said ∷ more) last h =
    let (count, is_count) = work_of old h.next edit said h.first in
    let (taken, is_taken) = taken_of old h.next edit said count h.first in
    let (rest_all, rest_done, rest) = edits_have_work h.next edits more last h.rest in (
      count + rest_all,
      taken + rest_done,
      record {
        said = said;
        next = h.next;
        answered = h.first;
        count = count;
        is_count = is_count;
        taken = taken;
        is_taken = is_taken;
        rest_all = rest_all;
        rest_done = rest_done;
        rest = rest;
        sum_all = refl;
        sum_done = refl;
      },
    )

-- ---- edits with the same texts
answered_too : (old : NetHistory) (es fs : List Edit) (ws : List EditSaid) (last : NetHistory) → map edit_view es ≡ map edit_view fs
    → AreAnswered old fs ws last → AreAnswered old es ws last
answered_too old [] [] ws last e h = h
answered_too old [] (f ∷ fs) ws last e h = absurd (cc)
answered_too old (d ∷ ds) [] ws last e h = absurd (cc)
answered_too old (d ∷ ds) (f ∷ fs) [] last e h = absurd h
answered_too old (d ∷ ds) (f ∷ fs) (w ∷ ws) last e h =
    let head : edit_view d ≡ edit_view f = cc in
    let tail : map edit_view ds ≡ map edit_view fs = cc in
    record {
      next = h.next;
      first = answered_alike old d f head w h.next h.first;
      rest = answered_too h.next ds fs ws last tail h.rest;
    }

pub lists_have_work : ListsHaveWork
lists_have_work form net at net_bytes edits_bytes reply told first edits is asked =
    let one = edits_one (rows_of edits_bytes) (map edit_view edits) (map edit_view told.edits) asked.are told.asked.are in
    let same = (each_file_says_one_thing net_bytes).one_network told.first first told.gives.reads is in
    let r = told.report in
    subst (λ (n : Net). HasWork (begun n) edits) same
    (edits_have_work (begun told.first) edits r.answers r.last
    (answered_too (begun told.first) edits told.edits r.answers r.last one r.answered))
