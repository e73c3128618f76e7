-- Networks that come one after the other, each edited from the one before, with a version of the values for each. Own
-- choice.
use Rattle.std.specs.Prelude.{◌≡◌, ℕ, ◌<◌, List, [], ◌∷◌, ◌++◌, length, Option, None, false, Contains, IsTrue, slice_index_or}
use Rattle.net_model.specs.Networks.{Net}
use Rattle.net_model.specs.Orders.{IsOrder}
use Rattle.net_cells.specs.declared.cell.Cell.{Cell}
use Rattle.net_cells.specs.Cells.{has_cell}
use Rattle.net_cells.specs.Meanings.{Meaning}
use Rattle.net_cells.specs.Order.{evaluation_order}
use Rattle.version_table.specs.Histories.{History}
use Rattle.cell_rules.specs.cell_changes.Slots.{HasSlot}
use Rattle.cell_rules.specs.cell_changes.Changes.{TouchedOf}
use Rattle.cell_rules.specs.cell_values.Placed.{placed}
use Rattle.cell_rules.specs.cell_values.Edits.{AllAnswered}

-- the networks before the present one, the first one first, and the versions of the values
pub record Stored (V : Type 0) : Type 0 where
  pub before : List Net
  pub present : Net
  pub values : History V

-- all networks, from the first to the present one
abbrev pub networks : {V : Type 0} → Stored V → List Net
networks s = s.before ++ s.present ∷ []

-- each cell of the network has its value at its place, and other cells have none
pub record HoldsTable {V : Type 0} (meaning : V → Meaning) (net : Net) (version : List (Option V)) : Type 0 where
  pub order : List ℕ
  pub servers : IsOrder net order
  pub answered : AllAnswered net (placed meaning version)
  pub nothing : (c : Cell) → has_cell net c ≡ false → placed meaning version c ≡ None

-- there is one version for each network, in their order, and it holds that network's table
pub record IsStored {V : Type 0} (meaning : V → Meaning) (before : List Net) (present : Net)
    (values : History V) : Type 0 where
  pub many : length before ≡ length values.kept
  pub each : (j : ℕ) (net : Net) (version : List (Option V)) → j < length before
      → HoldsTable meaning (slice_index_or before j net) (slice_index_or values.kept j version)
  pub now : HoldsTable meaning present values.newest

-- ---- a step
-- the touched cells of a network that came of another one, in the order in which they are taken: there is one such list
pub record AreTouched (old net : Net) (touched : List Cell) : Type 0 where
  pub order : List ℕ
  pub servers : IsOrder net order
  pub are : TouchedOf old net (evaluation_order net order) touched

-- the cells of a network that another one lacks; they have places
pub record AreLost (old net : Net) (gone : List Cell) : Type 0 where
  pub only : (c : Cell) → Contains gone c → (has_cell net c ≡ false) × HasSlot c
  pub were : (c : Cell) → Contains gone c → IsTrue (has_cell old c)
  pub all : (c : Cell) → IsTrue (has_cell old c) → has_cell net c ≡ false → Contains gone c

-- one network more, with a version of its own
pub record IsAdvanced {V : Type 0} (old : Stored V) (net : Net) (new : Stored V) : Type 0 where
  pub before : new.before ≡ old.before ++ old.present ∷ []
  pub present : new.present ≡ net
  pub values : new.values.kept ≡ old.values.kept ++ old.values.newest ∷ []

-- one network less, and its version
pub record IsBack {V : Type 0} (old new : Stored V) : Type 0 where
  pub before : old.before ≡ new.before ++ new.present ∷ []
  pub values : old.values.kept ≡ new.values.kept ++ new.values.newest ∷ []
