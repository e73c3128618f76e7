-- What is said of an edit is one thing, unless it tells a cycle.
use Rattle.std.proofs.Common.{◌≡◌, ◌⊎◌, ℕ, ◌++◌, List, length, Option, Some, None, inl, inr, sym, ap, ◌∙◌, subst}
use Rattle.std.specs.Prelude.{Ok, Err, codes, string_bytes}
use Rattle.upp_limits.specs.LimitTest.{fault_of}
use Rattle.upp_limits.specs.declared.own_limits.OverLimit.{OverLimit}
use Rattle.upp_limits.specs.declared.own_limits.OverLimit.TheVariants as limit
use Rattle.upp_limits.proofs.OneLimit.{same_limit, one_limit}
use Rattle.net_model.specs.declared.edit.Edit.{Edit}
use Rattle.net_model.specs.Networks.{Net}
use Rattle.net_model.specs.Orders.{IsOrder}
use Rattle.net_model.proofs.net_graph.OneOrders.{one_order}
use Rattle.net_model.proofs.net_graph.Returns.{order_or_cycle}
use Rattle.net_cells.specs.declared.cell.Cell.{Cell}
use Rattle.net_cells.specs.FirstOver.{FirstOver}
use Rattle.net_cells.proofs.Tables.{one_is_first_over}
use Rattle.net_edits.specs.declared.fault.EditFault.{EditFault}
use Rattle.net_edits.specs.declared.fault.EditFault.TheVariants.{UnknownName, NameTaken, BadValue, LimitReached, Cycle, TooMany, TooWide, NothingToUndo, NoMemory}
use Rattle.net_edits.specs.Edited.{Edited, MadeCurve, edited}
use Rattle.net_edits.specs.Refusals.{Refusal, unknown_name, name_taken, bad_value, no_number_left, nothing_to_undo}
use Rattle.net_edits.specs.Replies.{MadeCurveIsOver, IsEditOver}
use Rattle.cell_store.specs.edit_store.Stored.{AreTouched}
use Rattle.cell_store.proofs.edit_store.Steps.{gives_one, same_touched}
use Rattle.commands.specs.edit_report.Said.{EditSaid, said_of}
use Rattle.commands.specs.edit_report.Said as edit_said
use Rattle.report_text.specs.CellWords.{cell_words}
use Rattle.commands.specs.edit.NetHistories.{NetHistory}
use Rattle.commands.specs.edit.Causes.{GoesRound, HasCellOver, IsOverBy, IsCause}
use Rattle.commands.specs.edit.Answered.{IsTaken, IsAnswered, Taken, Undone, Refused}
use Rattle.commands.specs.edit.Laws.{TellsCycle, TellCycles}
use Rattle.commands.proofs.edit.Exclusive.{gives_not_over, gives_not_refused, over_not_refused, undo_gives_none}
use Rattle.commands.proofs.edit.NextOne.{no_cause, no_undo_cause, undo_says}

-- ---- what is said of refusals
abbrev said_by_rule : Refusal → EditSaid
said_by_rule (unknown_name name) = edit_said.Refused (codes "unknown-name " ++ name)
said_by_rule (name_taken name) = edit_said.Refused (codes "name-taken " ++ name)
said_by_rule bad_value = edit_said.Refused (codes "bad-value")
said_by_rule no_number_left = edit_said.Refused (codes "limit")
said_by_rule nothing_to_undo = edit_said.Refused (codes "nothing-to-undo")

abbrev said_over : OverLimit → List ℕ → EditSaid
said_over limit.TooMany cell = edit_said.Refused (codes "too-many " ++ cell)
said_over limit.TooWide cell = edit_said.Refused (codes "too-wide " ++ cell)

-- refused by a rule, for a cycle, for the curve that the edit makes, or for a cell
record ByRule (present : Net) (edit : Edit) (said : EditSaid) : Type 0 where
  why : Refusal
  is : edited present edit ≡ Err why
  says : said ≡ said_by_rule why

record ByCycle (present : Net) (edit : Edit) (said : EditSaid) : Type 0 where
  net : Net
  walk : List ℕ
  round : GoesRound present edit walk net
  tells : TellsCycle net said

record ByCurve (present : Net) (edit : Edit) (said : EditSaid) : Type 0 where
  cell : Cell
  which : OverLimit
  over : IsEditOver (edited present edit) cell which
  says : said ≡ said_over which (cell_words present cell)

record ByCell (present : Net) (edit : Edit) (said : EditSaid) : Type 0 where
  net : Net
  cell : Cell
  which : OverLimit
  over : HasCellOver present edit cell (fault_of which) net
  says : said ≡ said_over which (cell_words net cell)

data BySort (present : Net) (edit : Edit) (said : EditSaid) : Type 0 where
  rule : ByRule present edit said → BySort present edit said
  cycle : ByCycle present edit said → BySort present edit said
  curve : ByCurve present edit said → BySort present edit said
  cell : ByCell present edit said → BySort present edit said

over_sort : (present : Net) (edit : Edit) (said : EditSaid) (c : Cell) (which : OverLimit) (net : Net)
    → IsOverBy present edit c which net → said ≡ said_over which (cell_words net c) → BySort present edit said
over_sort present edit said c which net (inl o) says =
    curve (record {
      cell = c;
      which = which;
      over = o.0;
      says = says ∙ ap (λ (n : Net). said_over which (cell_words n c)) o.1;
    })
over_sort present edit said c which net (inr h) says =
    cell (record { net = net; cell = c; which = which; over = h; says = says })

sort : (old : NetHistory) (edit : Edit) (fault : EditFault) (net : Net) (said : EditSaid) → IsCause old edit fault net
    → said ≡ said_of net (Err fault) → BySort old.present edit said
sort old edit (UnknownName name) net said c says =
    rule (record { why = unknown_name (string_bytes name); is = c; says = says })
sort old edit (NameTaken name) net said c says =
    rule (record { why = name_taken (string_bytes name); is = c; says = says })
sort old edit BadValue net said c says = rule (record { why = bad_value; is = c; says = says })
sort old edit LimitReached net said c says = rule (record { why = no_number_left; is = c; says = says })
sort old edit (Cycle walk) net said c says =
    cycle (record {
      net = net;
      walk = walk.items;
      round = c;
      tells = record { accepted = c.accepted; walk = walk.items; cycle = c.cycle; is = says };
    })
sort old edit (TooMany at) net said c says = over_sort old.present edit said at limit.TooMany net c says
sort old edit (TooWide at) net said c says = over_sort old.present edit said at limit.TooWide net c says
sort old edit NothingToUndo net said c says =
    rule (record { why = nothing_to_undo; is = undo_says old.present edit c.0; says = says })
sort old edit NoMemory net said c says = absurd c

-- ---- two of them
abbrev pub AreOne : EditSaid → EditSaid → Type 0
AreOne x y = (x ≡ y) ⊎ TellCycles x y

one_made : (made : Option MadeCurve) (c d : Cell) (l m : OverLimit) → MadeCurveIsOver made c l → MadeCurveIsOver made d m
    → (c ≡ d) × (l ≡ m)
one_made None c d l m h k = absurd h
one_made (Some made) c d l m h k = (h.0 ∙ sym k.0, one_limit made.curve l m h.1 k.1)

both_curves : (present : Net) (edit : Edit) (x y : EditSaid) → ByCurve present edit x → ByCurve present edit y → x ≡ y
both_curves present edit x y h k =
    let both : Ok h.over.edited ≡ Ok k.over.edited = sym h.over.is ∙ k.over.is in
    let same : h.over.edited ≡ k.over.edited = cc in
    let one = one_made k.over.edited.made h.cell k.cell h.which k.which
    (subst (λ (e : Edited). MadeCurveIsOver e.made h.cell h.which) same h.over.over) k.over.over in
    h.says ∙ ap (λ (c : Cell). said_over h.which (cell_words present c)) one.0
    ∙ ap (λ (l : OverLimit). said_over l (cell_words present k.cell)) one.1 ∙ sym k.says

both_cells : (present : Net) (edit : Edit) (x y : EditSaid) → ByCell present edit x → ByCell present edit y → x ≡ y
both_cells present edit x y h k =
    let net : k.net ≡ h.net = gives_one present edit k.net h.net k.over.gives h.over.gives in
    let ordered : IsOrder h.net k.over.order = subst (λ (n : Net). IsOrder n k.over.order) net k.over.ordered in
    let order : k.over.order ≡ h.over.order = one_order h.net k.over.order h.over.order ordered h.over.ordered in
    let moved : FirstOver h.net k.over.order k.cell (fault_of k.which) =
    subst (λ (n : Net). FirstOver n k.over.order k.cell (fault_of k.which)) net k.over.first in
    let first : FirstOver h.net h.over.order k.cell (fault_of k.which) =
    subst (λ (o : List ℕ). FirstOver h.net o k.cell (fault_of k.which)) order moved in
    let cell = one_is_first_over.cell h.net h.over.order h.cell k.cell (fault_of h.which) (fault_of k.which)
    h.over.accepted h.over.ordered h.over.first first in
    let which = same_limit h.which k.which
    (one_is_first_over.fault h.net h.over.order h.cell k.cell (fault_of h.which) (fault_of k.which)
    h.over.accepted h.over.ordered h.over.first first) in
    h.says ∙ ap (λ (c : Cell). said_over h.which (cell_words h.net c)) cell
    ∙ ap (λ (l : OverLimit). said_over l (cell_words h.net k.cell)) which
    ∙ ap (λ (n : Net). said_over k.which (cell_words n k.cell)) (sym net) ∙ sym k.says

round_or_over : (present : Net) (edit : Edit) (x y : EditSaid) → ByCycle present edit x → ByCell present edit y → ⊥
round_or_over present edit x y h k =
    let net : k.net ≡ h.net = gives_one present edit k.net h.net k.over.gives h.round.gives in
    let ordered : IsOrder h.net k.over.order = subst (λ (n : Net). IsOrder n k.over.order) net k.over.ordered in
    order_or_cycle.no_cycle h.net k.over.order h.walk h.round.accepted ordered h.round.cycle

one_sort : (present : Net) (edit : Edit) (x y : EditSaid) → BySort present edit x → BySort present edit y → AreOne x y
one_sort present edit x y (rule h) (rule k) =
    let both : Err h.why ≡ Err k.why = sym h.is ∙ k.is in
    let same : h.why ≡ k.why = cc in
    inl (h.says ∙ ap said_by_rule same ∙ sym k.says)
one_sort present edit x y (rule h) (cycle k) = absurd (gives_not_refused (edited present edit) k.net h.why k.round.gives h.is)
one_sort present edit x y (rule h) (curve k) = absurd (over_not_refused (edited present edit) k.cell k.which h.why k.over h.is)
one_sort present edit x y (rule h) (cell k) = absurd (gives_not_refused (edited present edit) k.net h.why k.over.gives h.is)
one_sort present edit x y (cycle h) (rule k) = absurd (gives_not_refused (edited present edit) h.net k.why h.round.gives k.is)
one_sort present edit x y (cycle h) (cycle k) =
    let net : k.net ≡ h.net = gives_one present edit k.net h.net k.round.gives h.round.gives in
    let other : TellsCycle h.net y = subst (λ (n : Net). TellsCycle n y) net k.tells in
    inr (record { net = h.net; one = h.tells; other = other })
one_sort present edit x y (cycle h) (curve k) = absurd (gives_not_over (edited present edit) h.net k.cell k.which h.round.gives k.over)
one_sort present edit x y (cycle h) (cell k) = absurd (round_or_over present edit x y h k)
one_sort present edit x y (curve h) (rule k) = absurd (over_not_refused (edited present edit) h.cell h.which k.why h.over k.is)
one_sort present edit x y (curve h) (cycle k) = absurd (gives_not_over (edited present edit) k.net h.cell h.which k.round.gives h.over)
one_sort present edit x y (curve h) (curve k) = inl (both_curves present edit x y h k)
one_sort present edit x y (curve h) (cell k) = absurd (gives_not_over (edited present edit) k.net h.cell h.which k.over.gives h.over)
one_sort present edit x y (cell h) (rule k) = absurd (gives_not_refused (edited present edit) h.net k.why h.over.gives k.is)
one_sort present edit x y (cell h) (cycle k) = absurd (round_or_over present edit y x k h)
one_sort present edit x y (cell h) (curve k) = absurd (gives_not_over (edited present edit) h.net k.cell k.which h.over.gives k.over)
one_sort present edit x y (cell h) (cell k) = inl (both_cells present edit x y h k)

-- ---- all answers
both_taken : (old : NetHistory) (edit : Edit) (x y : EditSaid) (one other : NetHistory) → IsTaken old edit x one
    → IsTaken old edit y other → x ≡ y
both_taken old edit x y one other h k =
    let net : other.present ≡ one.present = gives_one old.present edit other.present one.present k.gives h.gives in
    let are : AreTouched old.present one.present k.touched =
    subst (λ (n : Net). AreTouched old.present n k.touched) net k.are in
    let touched = same_touched old.present one.present h.touched k.touched h.are are in
    h.says ∙ ap (λ (cells : List Cell). edit_said.Made (length cells)) touched ∙ sym k.says

pub said_is_one : (old : NetHistory) (edit : Edit) (x y : EditSaid) (one other : NetHistory) → IsAnswered old edit x one
    → IsAnswered old edit y other → AreOne x y
said_is_one old edit x y one other (Taken h) (Taken k) = inl (both_taken old edit x y one other h k)
said_is_one old edit x y one other (Taken h) (Undone k) = absurd (undo_gives_none old.present one.present edit k.undo h.gives)
said_is_one old edit x y one other (Taken h) (Refused k) =
    absurd (no_cause old edit k.fault one.present k.named_by h.table h.gives h.analysed k.cause)
said_is_one old edit x y one other (Undone h) (Taken k) = absurd (undo_gives_none old.present other.present edit h.undo k.gives)
said_is_one old edit x y one other (Undone h) (Undone k) = inl (h.says ∙ sym k.says)
said_is_one old edit x y one other (Undone h) (Refused k) =
    absurd (no_undo_cause old one edit k.fault k.named_by h.undo h.back k.cause)
said_is_one old edit x y one other (Refused h) (Taken k) =
    absurd (no_cause old edit h.fault other.present h.named_by k.table k.gives k.analysed h.cause)
said_is_one old edit x y one other (Refused h) (Undone k) =
    absurd (no_undo_cause old other edit h.fault h.named_by k.undo k.back h.cause)
said_is_one old edit x y one other (Refused h) (Refused k) =
    one_sort old.present edit x y (sort old edit h.fault h.named_by x h.cause h.says)
    (sort old edit k.fault k.named_by y k.cause k.says)
