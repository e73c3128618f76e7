-- A table of the network before an edit, and which cells the edit touches. Own choice.
use Rattle.std.specs.Prelude.{◌≡◌, ℕ, List, None, false, IsTrue, Contains, sum_by}
use Rattle.upp_limits.specs.declared.op_kind.OpFault.{OpFault}
use Rattle.upp_limits.specs.declared.op_kind.OpFault.TheVariants as operator
use Rattle.net_model.specs.Networks.{Net}
use Rattle.net_model.specs.Orders.{IsOrder}
use Rattle.net_cells.specs.declared.cell.Cell.{Cell}
use Rattle.net_cells.specs.Cells.{has_cell}
use Rattle.net_cells.specs.Meanings.{CellTable}
use Rattle.net_cells.specs.Order.{evaluation_order}
use Rattle.net_cells.specs.FirstOver.{IsAnswered, FirstOver}
use Rattle.net_cells.specs.Work.{work}
use Rattle.net_cells.specs.MemoryEnds.{EndsAtCell}
use Rattle.net_cells.specs.declared.cell_table.fault.AnalysisFault.{AnalysisFault}
use Rattle.net_cells.specs.declared.cell_table.fault.AnalysisFault.TheVariants.{TooMany, TooWide, NoMemory}
use Rattle.cell_rules.specs.cell_changes.Changes.{TouchedOf}
use Rattle.cell_rules.specs.cell_changes.Slots.{HasSlot}

-- each cell of a network has its value
abbrev pub AllAnswered : Net → CellTable → Type 0
AllAnswered net at = (c : Cell) → IsTrue (has_cell net c) → IsAnswered net at c

-- the network came of one whose cells have their values, and these are the cells that were touched, in the order in
-- which they are taken
pub record IsEditOf (net : Net) (touched : List Cell) (at : CellTable) : Type 0 where
  pub old : Net
  pub order : List ℕ
  pub servers : IsOrder net order
  pub are : TouchedOf old net (evaluation_order net order) touched
  pub answered : AllAnswered old at

-- by the order of the servers this cell is the first over a limit
abbrev pub IsFirst : Net → Cell → OpFault → Type 0
IsFirst net c fault = (order : List ℕ) → IsOrder net order → FirstOver net order c fault

-- it is one of the touched cells
pub record IsFirstTouched (net : Net) (touched : List Cell) (c : Cell) (fault : OpFault) : Type 0 where
  pub among : Contains touched c
  pub first : IsFirst net c fault

-- why cells have no values: the first one over a limit, and which limit, or want of memory
abbrev pub RefusesFor : (Cell → OpFault → Type 0) → AnalysisFault → Type 0
RefusesFor IsFirstOne (TooMany c) = IsFirstOne c operator.TooMany
RefusesFor IsFirstOne (TooWide c) = IsFirstOne c operator.TooWide
RefusesFor IsFirstOne NoMemory = Unit {0}

-- the table has the same at all cells but these
abbrev pub SameButAt : List Cell → CellTable → CellTable → Type 0
SameButAt cells old new = (c : Cell) → ¬ (Contains cells c) → new c ≡ old c

-- cells that the network has not; they have places
abbrev pub AreGone : Net → List Cell → Type 0
AreGone net gone = (c : Cell) → Contains gone c → (has_cell net c ≡ false) × HasSlot c

-- the table has nothing at these, and else is the same
pub record IsCleared (cells : List Cell) (old new : CellTable) : Type 0 where
  pub nothing : (c : Cell) → Contains cells c → new c ≡ None
  pub others : SameButAt cells old new

-- the table of a network edited from one: each cell of it has its value, the cells that are gone have none, and the
-- others are as they were
pub record IsEditedTable (net : Net) (gone touched : List Cell) (old new : CellTable) : Type 0 where
  pub answers : AllAnswered net new
  pub nothing : (c : Cell) → Contains gone c → new c ≡ None
  pub others : (c : Cell) → ¬ (Contains gone c) → ¬ (Contains touched c) → new c ≡ old c

-- ---- want of memory
-- of the touched cells those before one are answered, and it ends at that one; the table has at all other cells what
-- that before the edit has
pub record EndsAtTouched (net : Net) (touched : List Cell) (old : CellTable) (n : ℕ) : Type 0 where
  pub ends : EndsAtCell net touched n
  pub others : SameButAt touched old ends.table

-- it ends after the last of them, in taking values of cells away that are gone
pub record EndsPastTouched (net : Net) (touched : List Cell) (old : CellTable) (n : ℕ) : Type 0 where
  pub table : CellTable
  pub answered : AllAnswered net table
  pub others : SameButAt touched old table
  pub count : n ≡ sum_by (work net) touched

-- before the first of them, at one, or past the last, by how many operators on curves are counted by then
pub data EditEnds (net : Net) (touched : List Cell) (old : CellTable) (n : ℕ) : Type 0 where
  at_none : n ≡ 0 → EditEnds net touched old n
  at_touched : EndsAtTouched net touched old n → EditEnds net touched old n
  past_touched : EndsPastTouched net touched old n → EditEnds net touched old n
