-- One network more, and one less.
use Rattle.std.proofs.Common.{◌≡◌, ◌≢◌, ℕ, ◌<◌, ◌==◌, List, [], ◌∷◌, ◌++◌, length, get_or, Option, Some, None, Bool, true, false, sym, ap, ◌∙◌, subst, refl, arith, ⊎_elim}
use Rattle.std.specs.Prelude.{MatchOption, Ok}
use Rattle.std.proofs.lemmas.List.{get_or_push, get_or_append_left, length_push}
use Rattle.std.proofs.lemmas.Bool.Decides.{eqb_tells}
use Rattle.net_model.specs.Networks.{Net}
use Rattle.net_model.specs.declared.edit.Edit.{Edit}
use Rattle.net_model.proofs.net_graph.OneOrders.{one_order}
use Rattle.net_cells.specs.declared.cell.Cell.{Cell}
use Rattle.net_cells.specs.Cells.{has_cell}
use Rattle.net_cells.specs.Meanings.{Meaning}
use Rattle.net_cells.specs.Order.{evaluation_order}
use Rattle.net_cells.specs.Equations.{MeetsEquations}
use Rattle.net_cells.proofs.Lists.{contains_has}
use Rattle.net_cells.proofs.Tables.{answered_meets}
use Rattle.version_table.specs.Histories.{History}
use Rattle.cell_rules.specs.cell_changes.Changes.{TouchedOf}
use Rattle.cell_rules.proofs.cell_changes.CarriedOver.{touched_has, one_touched_list}
use Rattle.cell_rules.specs.cell_values.Placed.{placed}
use Rattle.cell_rules.specs.cell_values.Edits.{IsEditedTable}
use Rattle.cell_rules.proofs.cell_values.Fronts.{are_touched}
use Rattle.cell_store.specs.edit_store.Stored.{Stored, HoldsTable, IsStored, AreTouched, AreLost}
use Rattle.cell_store.specs.edit_store.Applied.{Gives}

module _ {V : Type 0} (meaning : V → Meaning) where
  -- the table of an edited network
  pub holds_edited : (old net : Net) (gone touched : List Cell) (was now : List (Option V)) → AreTouched old net touched
      → AreLost old net gone → HoldsTable meaning old was → IsEditedTable net gone touched (placed meaning was) (placed meaning now)
      → HoldsTable meaning net now
  holds_edited old net gone touched was now edit lost held table = record {
    order = edit.order;
    servers = edit.servers;
    answered = table.answers;
    nothing = λ c absent. by (has_cell old c) c absent refl;
  }
    where
      by : (b : Bool) (c : Cell) → has_cell net c ≡ false → has_cell old c ≡ b → placed meaning now c ≡ None
      by true c absent is = table.nothing c (lost.all c is absent)
      by false c absent is =
          table.others c
          (λ m. let had : has_cell old c ≡ true = lost.were c m in cc)
          (λ m. let has : has_cell net c ≡ true = touched_has old net c (are_touched old net _ touched edit.are c (contains_has touched c m)) in cc)
          ∙ held.nothing c is

  at_push : {X Y : Type 0} (P : X → Y → Type 0) (xs : List X) (ys : List Y) (x : X) (y : Y) → length xs ≡ length ys
      → ((j : ℕ) (d : X) (e : Y) → j < length xs → P (get_or xs j d) (get_or ys j e)) → P x y
      → (j : ℕ) (d : X) (e : Y) → j < length (xs ++ x ∷ []) → P (get_or (xs ++ x ∷ []) j d) (get_or (ys ++ y ∷ []) j e)
  at_push P xs ys x y many each here j d e h =
      ⊎_elim
      (λ (k : (j == length xs ≡ true) × (j ≡ length xs)).
      rw (get_or_push xs x d j (sym k.1), get_or_push ys y e j (sym many ∙ sym k.1)) here)
      (λ (k : (j == length xs ≡ false) × (j ≢ length xs)).
      let less : j < length xs = omega (arith, h, length_push xs x, k.1) in
      let more : j < length ys = omega (arith, many) in
      rw (get_or_append_left xs (x ∷ []) d j less, get_or_append_left ys (y ∷ []) e j more) (each j d e less))
      (eqb_tells j (length xs))

  pub stored_more : (before after : List Net) (present net : Net) (was now : History V) → IsStored meaning before present was
      → after ≡ before ++ present ∷ [] → now.kept ≡ was.kept ++ was.newest ∷ [] → HoldsTable meaning net now.newest
      → IsStored meaning after net now
  stored_more before after present net was now s nets kept held =
      let more = at_push (HoldsTable meaning) before was.kept present was.newest s.many s.each s.now in
      record {
        many = omega (arith, ap length nets, ap length kept, length_push before present, length_push was.kept was.newest, s.many);
        each = λ j d e h.
            let within : j < length (before ++ present ∷ []) = omega (arith, h, ap length nets) in
            let there = more j d e within in
            subst (λ (xs : List Net). HoldsTable meaning (get_or xs j d) (get_or now.kept j e)) (sym nets)
            (subst (λ (vs : List (List (Option V))). HoldsTable meaning (get_or (before ++ present ∷ []) j d) (get_or vs j e)) (sym kept) there);
        now = held;
      }

  pub stored_less : (before after : List Net) (present net : Net) (was now : History V) → IsStored meaning before present was
      → before ≡ after ++ net ∷ [] → was.kept ≡ now.kept ++ now.newest ∷ [] → IsStored meaning after net now
  stored_less before after present net was now s nets kept =
      let many : length after ≡ length now.kept =
      omega (arith, ap length nets, ap length kept, length_push after net, length_push now.kept now.newest, s.many) in
      let each : (j : ℕ) (d : Net) (e : List (Option V)) → j < length (after ++ net ∷ []) →
      HoldsTable meaning (get_or (after ++ net ∷ []) j d) (get_or (now.kept ++ now.newest ∷ []) j e) =
      λ j d e h. subst (λ (xs : List Net). HoldsTable meaning (get_or xs j d) (get_or (now.kept ++ now.newest ∷ []) j e)) nets
      (subst (λ (vs : List (List (Option V))). HoldsTable meaning (get_or before j d) (get_or vs j e)) kept
      (s.each j d e (omega (arith, h, ap length nets)))) in
      record {
        many = many;
        each = λ j d e h.
            let there = each j d e (omega (arith, h, length_push after net)) in
            let more : j < length now.kept = omega (arith, many) in
            subst (λ (n : Net). HoldsTable meaning n (get_or now.kept j e)) (get_or_append_left after (net ∷ []) d j h)
            (subst (λ (v : List (Option V)). HoldsTable meaning (get_or (after ++ net ∷ []) j d) v)
            (get_or_append_left now.kept (now.newest ∷ []) e j more) there);
        now =
            let there = each (length after) net now.newest (omega (arith, length_push after net)) in
            subst (λ (n : Net). HoldsTable meaning n now.newest) (get_or_push after net net (length after) refl)
            (subst (λ (v : List (Option V)). HoldsTable meaning (get_or (after ++ net ∷ []) (length after) net) v)
            (get_or_push now.kept now.newest now.newest (length after) (sym many)) there);
      }

-- where there was something to give up, it was
pub was_undone : (X U A B : Type 0) (r : Option X) → MatchOption r (A × B) (λ _. U) → ¬ A → U
was_undone X U A B None h never = absurd (never h.0)
was_undone X U A B (Some x) h never = h

-- ---- tables
pub meets : {V : Type 0} (meaning : V → Meaning) (net : Net) (version : List (Option V)) → HoldsTable meaning net version
    → MeetsEquations net (placed meaning version)
meets meaning net version held c has = answered_meets net (placed meaning version) c (held.answered c has)

-- one list of touched cells
pub same_touched : (old net : Net) (touched others : List Cell) → AreTouched old net touched → AreTouched old net others
    → touched ≡ others
same_touched old net touched others t s =
    one_touched_list old net (evaluation_order net s.order) touched others
    (subst (λ (xs : List ℕ). TouchedOf old net (evaluation_order net xs) touched)
    (one_order net t.order s.order t.servers s.servers) t.are) s.are

-- one network that an edit gives
pub gives_one : (present : Net) (edit : Edit) (net other : Net) → Gives present edit net → Gives present edit other
    → net ≡ other
gives_one present edit net other g h =
    let same : Ok g.edited ≡ Ok h.edited = sym g.is ∙ h.is in
    let one : g.edited ≡ h.edited = cc in
    g.net ∙ ap (λ e. e.net) one ∙ sym h.net

-- the table of a store, as it is seen
pub meets_of : {V : Type 0} (meaning : V → Meaning) (before : List Net) (present : Net) (values : History V) (seen : Stored V)
    → record { before = before; present = present; values = values } ≡ seen → IsStored meaning before present values
    → MeetsEquations seen.present (placed meaning seen.values.newest)
meets_of {V} meaning before present values seen e stored =
    subst (λ (s : Stored V). MeetsEquations s.present (placed meaning s.values.newest)) e
    (meets meaning present values.newest stored.now)
