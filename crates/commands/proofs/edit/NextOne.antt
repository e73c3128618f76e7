-- An edit leaves one history, whatever is said of it.
use Rattle.std.proofs.Common.{◌≡◌, ℕ, List, [], ◌∷◌, ◌++◌, inl, inr, refl, sym, ap, ◌∙◌, subst}
use Rattle.std.specs.Prelude.{Err, string_bytes}
use Rattle.upp_limits.specs.LimitTest.{fault_of}
use Rattle.upp_limits.specs.declared.own_limits.OverLimit.{OverLimit}
use Rattle.upp_limits.specs.declared.own_limits.OverLimit.TheVariants as limit
use Rattle.net_model.specs.declared.edit.Edit.{Edit}
use Rattle.net_model.specs.declared.edit.Edit.TheVariants.{Undo}
use Rattle.net_model.specs.Networks.{Net}
use Rattle.net_model.specs.Orders.{IsOrder}
use Rattle.net_model.proofs.net_graph.OneOrders.{one_order}
use Rattle.net_model.proofs.net_graph.Returns.{order_or_cycle}
use Rattle.net_cells.specs.declared.cell.Cell.{Cell}
use Rattle.net_cells.specs.Meanings.{CellTable}
use Rattle.net_cells.specs.FirstOver.{FirstOver}
use Rattle.net_cells.proofs.Tables.{one_is_first_over}
use Rattle.net_edits.specs.declared.fault.EditFault.{EditFault}
use Rattle.net_edits.specs.declared.fault.EditFault.TheVariants.{UnknownName, NameTaken, BadValue, LimitReached, Cycle, TooMany, TooWide, NothingToUndo, NoMemory}
use Rattle.net_edits.specs.Edited.{edited}
use Rattle.net_edits.specs.Refusals.{unknown_name, name_taken, bad_value, no_number_left, nothing_to_undo}
use Rattle.cell_store.specs.edit_store.Applied.{Gives}
use Rattle.cell_store.proofs.edit_store.Steps.{gives_one}
use Rattle.commands.specs.edit_report.Said.{EditSaid}
use Rattle.commands.specs.edit.NetHistories.{NetHistory}
use Rattle.commands.specs.edit.Causes.{GoesRound, HasCellOver, IsOverBy, IsCause}
use Rattle.commands.specs.edit.Answered.{IsAnalysed, IsAnswered, Taken, Undone, Refused}
use Rattle.commands.proofs.edit.Exclusive.{gives_not_over, gives_not_refused, undo_gives_none, undo_is_refused, none_pushed, push_same}

pub same_history : (x y : NetHistory) → x.before ≡ y.before → x.present ≡ y.present → x ≡ y
same_history x y b p =
    ap (λ (ns : List Net). let h : NetHistory = record { before = ns; present = x.present } in h) b
    ∙ ap (λ (n : Net). let h : NetHistory = record { before = y.before; present = n } in h) p

-- ---- a network that goes round, or has a cell over a limit, is not analysed
pub not_round : (present : Net) (edit : Edit) (net other : Net) (walk : List ℕ) (at : CellTable) → Gives present edit net
    → IsAnalysed net at → GoesRound present edit walk other → ⊥
not_round present edit net other walk at g a r =
    let one : other ≡ net = gives_one present edit other net r.gives g in
    let order : IsOrder other a.order = subst (λ (n : Net). IsOrder n a.order) (sym one) a.ordered in
    order_or_cycle.no_cycle other a.order walk r.accepted order r.cycle

pub not_over : (present : Net) (edit : Edit) (net other : Net) (cell : Cell) (which : OverLimit) (at : CellTable)
    → Gives present edit net → IsAnalysed net at → HasCellOver present edit cell (fault_of which) other → ⊥
not_over present edit net other cell which at g a h =
    let one : other ≡ net = gives_one present edit other net h.gives g in
    let ordered : IsOrder net h.order = subst (λ (n : Net). IsOrder n h.order) one h.ordered in
    let same : h.order ≡ a.order = one_order net h.order a.order ordered a.ordered in
    let first : FirstOver net h.order cell (fault_of which) =
    subst (λ (n : Net). FirstOver n h.order cell (fault_of which)) one h.first in
    let here : FirstOver net a.order cell (fault_of which) =
    subst (λ (o : List ℕ). FirstOver net o cell (fault_of which)) same first in
    one_is_first_over.alone net a.order cell (fault_of which) at a.accepted a.ordered here a.answers

not_over_by : (present : Net) (edit : Edit) (net other : Net) (cell : Cell) (which : OverLimit) (at : CellTable)
    → Gives present edit net → IsAnalysed net at → IsOverBy present edit cell which other → ⊥
not_over_by present edit net other cell which at g a (inl o) =
    gives_not_over (edited present edit) net cell which g o.0
not_over_by present edit net other cell which at g a (inr h) = not_over present edit net other cell which at g a h

-- what is taken has no cause to be refused
pub no_cause : (old : NetHistory) (edit : Edit) (fault : EditFault) (net other : Net) (at : CellTable)
    → Gives old.present edit net → IsAnalysed net at → IsCause old edit fault other → ⊥
no_cause old edit (UnknownName name) net other at g a c = gives_not_refused (edited old.present edit) net (unknown_name (string_bytes name)) g c
no_cause old edit (NameTaken name) net other at g a c = gives_not_refused (edited old.present edit) net (name_taken (string_bytes name)) g c
no_cause old edit BadValue net other at g a c = gives_not_refused (edited old.present edit) net bad_value g c
no_cause old edit LimitReached net other at g a c = gives_not_refused (edited old.present edit) net no_number_left g c
no_cause old edit (Cycle walk) net other at g a c = not_round old.present edit net other walk.items at g a c
no_cause old edit (TooMany cell) net other at g a c = not_over_by old.present edit net other cell limit.TooMany at g a c
no_cause old edit (TooWide cell) net other at g a c = not_over_by old.present edit net other cell limit.TooWide at g a c
no_cause old edit NothingToUndo net other at g a c = undo_gives_none old.present net edit c.0 g
no_cause old edit NoMemory net other at g a c = absurd c

-- ---- an undo
pub undo_says : (present : Net) (edit : Edit) → edit ≡ Undo → edited present edit ≡ Err nothing_to_undo
undo_says present edit u = subst (λ (d : Edit). edited present d ≡ Err nothing_to_undo) (sym u) refl

no_undo : (present : Net) (edit : Edit) (net : Net) (cell : Cell) (which : OverLimit) → edit ≡ Undo
    → IsOverBy present edit cell which net → ⊥
no_undo present edit net cell which u (inl o) = undo_is_refused present edit o.0.edited u o.0.is
no_undo present edit net cell which u (inr h) = undo_gives_none present net edit u h.gives

pub no_undo_cause : (old new : NetHistory) (edit : Edit) (fault : EditFault) (net : Net) → edit ≡ Undo
    → old.before ≡ new.before ++ new.present ∷ [] → IsCause old edit fault net → ⊥
no_undo_cause old new edit (UnknownName name) net u back c =
    let bad : Err (unknown_name (string_bytes name)) ≡ Err nothing_to_undo = sym c ∙ undo_says old.present edit u in cc
no_undo_cause old new edit (NameTaken name) net u back c =
    let bad : Err (name_taken (string_bytes name)) ≡ Err nothing_to_undo = sym c ∙ undo_says old.present edit u in cc
no_undo_cause old new edit BadValue net u back c =
    let bad : Err bad_value ≡ Err nothing_to_undo = sym c ∙ undo_says old.present edit u in cc
no_undo_cause old new edit LimitReached net u back c =
    let bad : Err no_number_left ≡ Err nothing_to_undo = sym c ∙ undo_says old.present edit u in cc
no_undo_cause old new edit (Cycle walk) net u back c = undo_gives_none old.present net edit u c.gives
no_undo_cause old new edit (TooMany cell) net u back c = no_undo old.present edit net cell limit.TooMany u c
no_undo_cause old new edit (TooWide cell) net u back c = no_undo old.present edit net cell limit.TooWide u c
no_undo_cause old new edit NothingToUndo net u back c = none_pushed new.before new.present (sym c.1 ∙ back)
no_undo_cause old new edit NoMemory net u back c = absurd c

-- ---- all
pub next_is_one : (old : NetHistory) (edit : Edit) (said others : EditSaid) (x y : NetHistory)
    → IsAnswered old edit said x → IsAnswered old edit others y → x ≡ y
next_is_one old edit said others x y (Taken h) (Taken k) =
    same_history x y (h.before ∙ sym k.before) (gives_one old.present edit x.present y.present h.gives k.gives)
next_is_one old edit said others x y (Taken h) (Undone k) =
    absurd (undo_gives_none old.present x.present edit k.undo h.gives)
next_is_one old edit said others x y (Taken h) (Refused k) =
    absurd (no_cause old edit k.fault x.present k.named_by h.table h.gives h.analysed k.cause)
next_is_one old edit said others x y (Undone h) (Taken k) =
    absurd (undo_gives_none old.present y.present edit h.undo k.gives)
next_is_one old edit said others x y (Undone h) (Undone k) =
    let both = push_same x.before y.before x.present y.present (sym h.back ∙ k.back) in
    same_history x y both.0 both.1
next_is_one old edit said others x y (Undone h) (Refused k) =
    absurd (no_undo_cause old x edit k.fault k.named_by h.undo h.back k.cause)
next_is_one old edit said others x y (Refused h) (Taken k) =
    absurd (no_cause old edit h.fault y.present h.named_by k.table k.gives k.analysed h.cause)
next_is_one old edit said others x y (Refused h) (Undone k) =
    absurd (no_undo_cause old y edit h.fault h.named_by k.undo k.back h.cause)
next_is_one old edit said others x y (Refused h) (Refused k) = h.same ∙ sym k.same
