-- Which cells were found to be touched so far, which a network has by a number, and which are gone. Own choice.
use Rattle.std.specs.Prelude.{◌≡◌, ◌≢◌, ◌⊎◌, ℕ, List, [], ◌∷◌, ◌++◌, length, map, Bool, true, false, not, IsTrue, Contains, slice_index_or, slice_set}
use Rattle.std.specs.List.{filter, list_any, range_with_len}
use Rattle.net_model.specs.Networks.{Net}
use Rattle.net_cells.specs.declared.cell.Cell.{Cell}
use Rattle.net_cells.specs.declared.cell.Kind.{Kind}
use Rattle.net_cells.specs.Cells.{cell_of, has_cell}
use Rattle.net_cells.specs.Formulas.{leaves}
use Rattle.net_cells.specs.CellFormulas.{formula}
use Rattle.cell_rules.specs.cell_changes.Changes.{HasSameRule, Touched, Untouched}
use Rattle.cell_rules.specs.cell_changes.Slots.{slot, HasSlot}

-- the cells of a network by a number: of the flow and of the server that have it
pub record AreCellsOf (net : Net) (number : ℕ) (cells : List Cell) : Type 0 where
  pub only : (c : Cell) → Contains cells c → IsTrue (has_cell net c) × (c.a ≡ number)
  pub all : (c : Cell) → IsTrue (has_cell net c) → c.a ≡ number → Contains cells c

-- those of a kind; no path has more than 16 hops, and no server as many queues
abbrev pub kind_cells_of : Net → ℕ → Kind → List Cell
kind_cells_of net number kind = filter (has_cell net) (map (cell_of kind number) (range_with_len 0 16))

-- two networks have the same cells but those of a number
abbrev pub HaveSameCellsBut : ℕ → Net → Net → Type 0
HaveSameCellsBut number old new = (c : Cell) → c.a ≢ number → has_cell old c ≡ has_cell new c

-- those of some cells that a network lacks
abbrev pub gone_of : Net → List Cell → List Cell
gone_of net cells = filter (λ c. not (has_cell net c)) cells

-- ---- flags
-- by its place a cell is flagged
abbrev pub flag_of : List Bool → Cell → Bool
flag_of flags c = slice_index_or flags (slot c) false

-- one of these is
abbrev pub is_flagged : List Bool → List Cell → Bool
is_flagged flags cells = list_any (flag_of flags) cells

-- flagged cells are touched, and those of a front that are not flagged are untouched
pub record AreFlags (old net : Net) (front : List Cell) (flags : List Bool) : Type 0 where
  pub room : length flags ≡ 36352
  pub touched : (c : Cell) → HasSlot c → flag_of flags c ≡ true → Touched old net c
  pub untouched : (c : Cell) → Contains front c → flag_of flags c ≡ false → Untouched old net c

-- where no cell was touched so far, none is flagged
abbrev pub IsBareAtFirst : List Bool → List Cell → Type 0
IsBareAtFirst flags touched = touched ≡ [] → (i : ℕ) → slice_index_or flags i false ≡ false

-- so of flags for all places
pub record AreBareAtFirst (flags : List Bool) (touched : List Cell) : Type 0 where
  pub room : length flags ≡ 36352
  pub bare : IsBareAtFirst flags touched

-- a cell of the new network is told to be changed or not
abbrev pub TellsChanged : Net → Net → Cell → Bool → Type 0
TellsChanged old net c true = ¬ (HasSameRule old net c)
TellsChanged old net c false = HasSameRule old net c

-- a cell is told to be touched: it is made of other things than before, or of a flagged one
abbrev pub IsTold : Net → Net → List Bool → Cell → Bool → Type 0
IsTold old net flags c true = ¬ (HasSameRule old net c) ⊎ (is_flagged flags (leaves (formula net c)) ≡ true)
IsTold old net flags c false = HasSameRule old net c × (is_flagged flags (leaves (formula net c)) ≡ false)

-- a touched cell is flagged, and put after the others
abbrev pub IsNoted : Cell → Bool → (flags more : List Bool) → (touched longer : List Cell) → Type 0
IsNoted c true flags more touched longer = (more ≡ slice_set flags (slot c) true) × (longer ≡ touched ++ c ∷ [])
IsNoted c false flags more touched longer = (more ≡ flags) × (longer ≡ touched)
