-- Cells at their places: a change of one leaves the others.
use Rattle.std.proofs.Common.{◌≡◌, ◌≢◌, ℕ, List, replicate, Option, None, Bool, true, false, cond, ap, ◌∙◌, refl, arith, inl, inr, ⊎_elim, ◌==◌}
use Rattle.std.specs.Prelude.{Result, OnOk}
use Rattle.std.specs.Option.{option_map}
use Rattle.std.proofs.lemmas.Bool.{cases_lt, and_parts, ltb-true}
use Rattle.std.proofs.lemmas.List.{get_or-replicate, length-replicate, get_or_past}
use Rattle.std.proofs.lemmas.Bool.Decides.{eqb_tells}
use Rattle.std.proofs.lemmas.Result.{on_ok_weaker}
use Rattle.net_cells.specs.declared.cell.Cell.{Cell}
use Rattle.net_cells.specs.Meanings.{Meaning}
use Rattle.version_table.specs.Histories.{History, IsSet, at}
use Rattle.cell_rules.specs.cell_changes.Slots.{rows, columns, slot, is_placed, HasSlot}
use Rattle.cell_rules.proofs.cell_changes.OwnSlots.{own}
use Rattle.cell_rules.specs.cell_values.Placed.{placed}

-- two choices agree where they do in the case that holds
under : {X : Type 0} (b : Bool) (x y n : X) → (b ≡ true → x ≡ y) → cond b x n ≡ cond b y n
under true x y n h = h refl
under false x y n h = refl

pub slot_of : (c : Cell) → is_placed c ≡ true → HasSlot c
slot_of c h =
    let parts = and_parts _ _ h in
    record { row = ltb-true c.a (rows c.kind) parts.0; column = ltb-true c.b (columns c.kind) parts.1 }

module _ {V : Type 0} where
  pub placed-others : (meaning : V → Meaning) (old new : List (Option V)) (cell : Cell) → HasSlot cell
      → ((other : ℕ) → other ≢ slot cell → at new other ≡ at old other) → (c : Cell) → c ≢ cell
      → placed meaning new c ≡ placed meaning old c
  placed-others meaning old new cell has others c differs =
      under (is_placed c) _ _ None
      (λ h. ap (option_map meaning) (others (slot c) (λ e. differs (own c cell (slot_of c h) has e))))

  -- so where a place was set
  pub set-others : {X E : Type 0} (meaning : V → Meaning) (old new : History V) (cell : Cell) (place : ℕ) (value : Option V) (r : Result X E)
      → HasSlot cell → place ≡ slot cell → OnOk r (IsSet old place value new)
      → OnOk r ((c : Cell) → c ≢ cell → placed meaning new.newest c ≡ placed meaning old.newest c)
  set-others {X} {E} meaning old new cell place value r has is set =
      on_ok_weaker r (λ (h : IsSet old place value new).
      placed-others meaning old.newest new.newest cell has (λ other differs. h.others other (λ e. differs (e ∙ is)))) set

  -- where a cell is emptied, what had nothing has nothing
  pub placed-none : (meaning : V → Meaning) (old new : List (Option V)) (cell : Cell) → at new (slot cell) ≡ None
      → ((other : ℕ) → other ≢ slot cell → at new other ≡ at old other) → (c : Cell) → placed meaning old c ≡ None
      → placed meaning new c ≡ None
  placed-none meaning old new cell here others c was =
      either (is_placed c) (option_map meaning (at old (slot c))) (option_map meaning (at new (slot c)))
      (λ none. ⊎_elim
      (λ (e : (slot c == slot cell ≡ true) × (slot c ≡ slot cell)).
      ap (option_map meaning) (ap (at new) e.1 ∙ here))
      (λ (e : (slot c == slot cell ≡ false) × (slot c ≢ slot cell)).
      ap (option_map meaning) (others (slot c) e.1) ∙ none)
      (eqb_tells (slot c) (slot cell)))
      was
    where
      either : (b : Bool) (x y : Option Meaning) → (x ≡ None → y ≡ None) → cond b x None ≡ None → cond b y None ≡ None
      either true x y step h = step h
      either false x y step h = h

  at-nothing : (n i : ℕ) → at {T = V} (replicate n None) i ≡ None
  at-nothing n i =
      elim (cases_lt i n) [
        | inl l ↦ get_or-replicate n i None None l
        | inr l ↦ get_or_past (replicate n None) i None (omega (arith, l, length-replicate {A = Option V} n None))
      ]

  pub placed-nothing : (meaning : V → Meaning) (n : ℕ) (version : List (Option V)) → version ≡ replicate n None → (c : Cell)
      → placed meaning version c ≡ None
  placed-nothing meaning n version is c =
      under (is_placed c) (option_map meaning (at version (slot c))) None None
      (λ h. ap (option_map meaning) (ap (λ xs. at xs (slot c)) is ∙ at-nothing n (slot c)))
      ∙ same (is_placed c) None
    where
      same : (b : Bool) → (x : Option Meaning) → cond b x x ≡ x
      same true x = refl
      same false x = refl
