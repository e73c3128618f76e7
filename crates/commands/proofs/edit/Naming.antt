-- Which network has the names of a refusal.
use Rattle.std.proofs.Common.{◌≡◌, ◌≢◌, ◌⊎◌, ℕ, inl, inr, refl, sym, ◌∙◌, subst}
use Rattle.std.specs.Prelude.{Ok, Err, string_bytes}
use Rattle.std.specs.declared.alloc.Global.{Global}
use Rattle.std.specs.declared.vec.Vec.{Vec}
use Rattle.upp_limits.specs.LimitTest.{fault_of}
use Rattle.upp_limits.specs.declared.own_limits.OverLimit.{OverLimit}
use Rattle.upp_limits.specs.declared.own_limits.OverLimit.TheVariants as limit
use Rattle.net_model.specs.declared.edit.Edit.{Edit}
use Rattle.net_model.specs.Networks.{Net}
use Rattle.net_model.specs.Accepted.{IsAccepted}
use Rattle.net_cells.specs.declared.cell.Cell.{Cell}
use Rattle.net_edits.specs.declared.fault.EditFault.{EditFault}
use Rattle.net_edits.specs.declared.fault.EditFault.TheVariants.{UnknownName, NameTaken, BadValue, LimitReached, Cycle, TooMany, TooWide, NothingToUndo, NoMemory}
use Rattle.net_edits.specs.Edited.{edited}
use Rattle.net_edits.specs.Refusals.{unknown_name, name_taken, bad_value, no_number_left}
use Rattle.net_edits.specs.Replies.{IsEditOver}
use Rattle.cell_store.specs.edit_store.Stored.{Stored}
use Rattle.cell_store.specs.edit_store.Applied as applied
use Rattle.cell_store.specs.edit_store.Applied.{Gives, IsShown, IsHidden, IsRefused}
use Rattle.cell_store.proofs.edit_store.Steps.{gives_one}
use Rattle.commands.specs.edit.NetHistories.{history_of}
use Rattle.commands.specs.edit.Causes.{BreaksNoRule, HasCellOver, GoesRound, IsOverBy, IsCause}
use Rattle.commands.specs.edit.Said.{IsOfEdited}
use Rattle.commands.proofs.edit.Exclusive.{gives_not_over, undo_is_refused}

module _ {V : Type 0} (s : Stored V) (edit : Edit) where
  -- ---- an edit that no rule refuses is shown
  pub breaks_no_rule : (fault : EditFault) → IsRefused s edit fault → IsOfEdited fault → BreaksNoRule s.present edit
  breaks_no_rule (UnknownName name) r late = absurd late
  breaks_no_rule (NameTaken name) r late = absurd late
  breaks_no_rule BadValue r late = absurd late
  breaks_no_rule LimitReached r late = absurd late
  breaks_no_rule (Cycle walk) r late = record { made = r.gives.edited; is = r.gives.is }
  breaks_no_rule (TooMany cell) (inl o) late = record { made = o.edited; is = o.is }
  breaks_no_rule (TooMany cell) (inr c) late = record { made = c.gives.edited; is = c.gives.is }
  breaks_no_rule (TooWide cell) (inl o) late = record { made = o.edited; is = o.is }
  breaks_no_rule (TooWide cell) (inr c) late = record { made = c.gives.edited; is = c.gives.is }
  breaks_no_rule NothingToUndo r late = absurd late
  breaks_no_rule NoMemory r late = absurd late

  pub never_hidden : (fault : EditFault) → BreaksNoRule s.present edit → fault ≢ NoMemory → IsHidden s edit fault → ⊥
  never_hidden (UnknownName name) b told h = let bad : Ok b.made ≡ Err (unknown_name (string_bytes name)) = sym b.is ∙ h in cc
  never_hidden (NameTaken name) b told h = let bad : Ok b.made ≡ Err (name_taken (string_bytes name)) = sym b.is ∙ h in cc
  never_hidden BadValue b told h = let bad : Ok b.made ≡ Err bad_value = sym b.is ∙ h in cc
  never_hidden LimitReached b told h = let bad : Ok b.made ≡ Err no_number_left = sym b.is ∙ h in cc
  never_hidden (Cycle walk) b told h = absurd h
  never_hidden (TooMany cell) b told h = absurd h
  never_hidden (TooWide cell) b told h = absurd h
  never_hidden NothingToUndo b told h = undo_is_refused s.present edit b.made h.0 b.is
  never_hidden NoMemory b told h = absurd (told refl)

  -- ---- the network that is shown
  given : (net other : Net) → IsShown s edit net → Gives s.present edit other → other ≡ net
  given net other shown g = by (shown.other (λ u. undo_is_refused s.present edit g.edited u g.is))
    where
      by : Gives s.present edit net ⊎ (applied.MakesNone s.present edit × (net ≡ s.present)) → other ≡ net
      by (inl k) = gives_one s.present edit other net g k
      by (inr k) = absurd (gives_not_over (edited s.present edit) other k.0.cell k.0.which g k.0.over)

  present : (net : Net) (cell : Cell) (which : OverLimit) → IsShown s edit net → IsEditOver (edited s.present edit) cell which
      → net ≡ s.present
  present net cell which shown o = by (shown.other (λ u. undo_is_refused s.present edit o.edited u o.is))
    where
      by : Gives s.present edit net ⊎ (applied.MakesNone s.present edit × (net ≡ s.present)) → net ≡ s.present
      by (inl k) = absurd (gives_not_over (edited s.present edit) net cell which k o)
      by (inr k) = k.1

  over_by : (net : Net) (cell : Cell) (which : OverLimit) → IsShown s edit net → IsAccepted net
      → applied.IsOver s.present edit cell which (fault_of which) → IsOverBy s.present edit cell which net
  over_by net cell which shown accepted (inl o) = inl (o, present net cell which shown o)
  over_by net cell which shown accepted (inr c) =
      let same : c.net ≡ net = given net c.net shown c.gives in
      let here : HasCellOver s.present edit cell (fault_of which) c.net = record {
        gives = c.gives;
        accepted = subst IsAccepted (sym same) accepted;
        order = c.order;
        ordered = c.servers;
        all_touched = c.all_touched;
        are = c.are;
        touched = c.touched;
        first = c.over;
      } in
      inr (subst (λ (n : Net). HasCellOver s.present edit cell (fault_of which) n) same here)

  pub cause_of_edited : (fault : EditFault) (net : Net) → IsRefused s edit fault → IsOfEdited fault → IsShown s edit net
      → IsAccepted net → IsCause (history_of s) edit fault net
  cause_of_edited (UnknownName name) net r late shown accepted = absurd late
  cause_of_edited (NameTaken name) net r late shown accepted = absurd late
  cause_of_edited BadValue net r late shown accepted = absurd late
  cause_of_edited LimitReached net r late shown accepted = absurd late
  cause_of_edited (Cycle walk) net r late shown accepted =
      let same : r.net ≡ net = given net r.net shown r.gives in
      let here : GoesRound s.present edit walk.items r.net = record {
        gives = r.gives;
        accepted = subst IsAccepted (sym same) accepted;
        cycle = r.cycle;
      } in
      subst (λ (n : Net). GoesRound s.present edit walk.items n) same here
  cause_of_edited (TooMany cell) net r late shown accepted = over_by net cell limit.TooMany shown accepted r
  cause_of_edited (TooWide cell) net r late shown accepted = over_by net cell limit.TooWide shown accepted r
  cause_of_edited NothingToUndo net r late shown accepted = absurd late
  cause_of_edited NoMemory net r late shown accepted = absurd late

  -- ---- of other refusals
  pub cause_of_rule : (fault : EditFault) (net : Net) → IsRefused s edit fault → fault ≢ NoMemory
      → ¬ (IsOfEdited fault) → IsCause (history_of s) edit fault net
  cause_of_rule (UnknownName name) net r told early = r
  cause_of_rule (NameTaken name) net r told early = r
  cause_of_rule BadValue net r told early = r
  cause_of_rule LimitReached net r told early = r
  cause_of_rule (Cycle walk) net r told early = absurd (early tt)
  cause_of_rule (TooMany cell) net r told early = absurd (early tt)
  cause_of_rule (TooWide cell) net r told early = absurd (early tt)
  cause_of_rule NothingToUndo net r told early = r
  cause_of_rule NoMemory net r told early = absurd (told refl)

-- a fault that is none of these is not of the edited network
pub not_of_edited : (fault : EditFault) → ((walk : Vec ℕ Global) → fault ≢ Cycle walk)
    → ((cell : Cell) → fault ≢ TooMany cell) → ((cell : Cell) → fault ≢ TooWide cell) → ¬ (IsOfEdited fault)
not_of_edited (UnknownName name) round many wide h = absurd h
not_of_edited (NameTaken name) round many wide h = absurd h
not_of_edited BadValue round many wide h = absurd h
not_of_edited LimitReached round many wide h = absurd h
not_of_edited (Cycle walk) round many wide h = round walk refl
not_of_edited (TooMany cell) round many wide h = many cell refl
not_of_edited (TooWide cell) round many wide h = wide cell refl
not_of_edited NothingToUndo round many wide h = absurd h
not_of_edited NoMemory round many wide h = absurd h
