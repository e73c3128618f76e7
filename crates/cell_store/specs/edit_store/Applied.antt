-- What an edit of a store answers: one network more, one less, or why there is neither. Own choice.
use Rattle.std.specs.Prelude.{◌≡◌, ◌≢◌, ◌⊎◌, ◌≤◌, ℕ, List, [], ◌∷◌, ◌++◌, length, sum_by}
use Rattle.upp_limits.specs.declared.op_kind.OpFault.{OpFault}
use Rattle.upp_limits.specs.declared.op_kind.OpFault.TheVariants as operator
use Rattle.upp_limits.specs.declared.own_limits.OverLimit.{OverLimit}
use Rattle.upp_limits.specs.declared.own_limits.OverLimit.TheVariants as limit
use Rattle.net_model.specs.declared.edit.Edit.{Edit}
use Rattle.net_model.specs.declared.edit.Edit.TheVariants.{Undo}
use Rattle.net_model.specs.Networks.{Net}
use Rattle.net_model.specs.Orders.{IsOrder}
use Rattle.net_model.specs.Walks.{IsCycle}
use Rattle.net_cells.specs.declared.cell.Cell.{Cell}
use Rattle.net_cells.specs.FirstOver.{FirstOver}
use Rattle.net_cells.specs.Meanings.{CellTable}
use Rattle.net_cells.specs.Work.{work}
use Rattle.net_edits.specs.declared.fault.EditFault.{EditFault}
use Rattle.net_edits.specs.declared.fault.EditFault.TheVariants.{UnknownName, NameTaken, BadValue, LimitReached, Cycle, TooMany, TooWide, NothingToUndo, NoMemory}
use Rattle.net_edits.specs.Edited.{edited}
use Rattle.net_edits.specs.Replies.{Refuses, IsEditOver, IsOverNone}
pub use Rattle.cell_rules.specs.cell_changes.Changes.{Touched}
pub use Rattle.cell_rules.specs.edit_sites.Sites.{Gives}
use Rattle.cell_rules.specs.cell_values.Edits.{EditEnds}
use Rattle.cell_store.specs.edit_store.Stored.{Stored, networks, AreTouched}

-- ---- an edit that is taken
-- one network more, and so many touched cells
pub record IsTaken {V : Type 0} (old : Stored V) (edit : Edit) (cells : ℕ) (new : Stored V) : Type 0 where
  pub networks : networks new ≡ networks old ++ new.present ∷ []
  pub gives : Gives old.present edit new.present
  pub touched : List Cell
  pub are : AreTouched old.present new.present touched
  pub count : cells ≡ length touched

-- an undo: one network less, and no touched cell
pub record IsTakenBack {V : Type 0} (old : Stored V) (cells : ℕ) (new : Stored V) : Type 0 where
  pub networks : networks old ≡ networks new ++ old.present ∷ []
  pub count : cells ≡ 0

pub record IsApplied {V : Type 0} (old : Stored V) (edit : Edit) (cells : ℕ) (new : Stored V) : Type 0 where
  pub undo : edit ≡ Undo → IsTakenBack old cells new
  pub other : edit ≢ Undo → IsTaken old edit cells new

-- ---- an edit that is refused
-- the edited network has a cycle
pub record IsCyclic (present : Net) (edit : Edit) (walk : List ℕ) : Type 0 where
  pub net : Net
  pub gives : Gives present edit net
  pub cycle : IsCycle net walk

-- of the touched cells of the edited network this one is the first over a limit: none before it is, of all cells. What
-- is counted is bounded by the work of all touched ones
pub record IsCellOver (present : Net) (edit : Edit) (cell : Cell) (fault : OpFault) : Type 0 where
  pub net : Net
  pub gives : Gives present edit net
  pub order : List ℕ
  pub servers : IsOrder net order
  pub all_touched : List Cell
  pub are : AreTouched present net all_touched
  pub touched : Touched present net cell
  pub over : FirstOver net order cell fault

-- the curve that the edit makes is over the limit, or else a cell is
abbrev pub IsOver : Net → Edit → Cell → OverLimit → OpFault → Type 0
IsOver present edit cell which fault = IsEditOver (edited present edit) cell which ⊎ IsCellOver present edit cell fault

-- why an edit is refused. An undo is refused only where there is nothing to undo: it takes no memory
abbrev pub IsRefused : {V : Type 0} → Stored V → Edit → EditFault → Type 0
IsRefused s edit (UnknownName name) = Refuses (edited s.present edit) (UnknownName name)
IsRefused s edit (NameTaken name) = Refuses (edited s.present edit) (NameTaken name)
IsRefused s edit BadValue = Refuses (edited s.present edit) BadValue
IsRefused s edit LimitReached = Refuses (edited s.present edit) LimitReached
IsRefused s edit (Cycle walk) = IsCyclic s.present edit walk.items
IsRefused s edit (TooMany cell) = IsOver s.present edit cell limit.TooMany operator.TooMany
IsRefused s edit (TooWide cell) = IsOver s.present edit cell limit.TooWide operator.TooWide
IsRefused s edit NothingToUndo = (edit ≡ Undo) × (s.before ≡ [])
IsRefused s edit NoMemory = edit ≢ Undo

-- ---- want of memory, by how many operators on curves are counted by then
-- there is an edited network, and it ends in making its touched cells
pub record EndsInCells (present : Net) (edit : Edit) (old : CellTable) (n : ℕ) : Type 0 where
  pub net : Net
  pub gives : Gives present edit net
  pub touched : List Cell
  pub are : AreTouched present net touched
  pub ends : EditEnds net touched old n

-- before that none is counted, and the curve that the edit makes is over no limit
pub data EndsInEdit (present : Net) (edit : Edit) (old : CellTable) (n : ℕ) : Type 0 where
  before_cells : n ≡ 0 → IsOverNone (edited present edit) → EndsInEdit present edit old n
  in_cells : EndsInCells present edit old n → EndsInEdit present edit old n

-- ---- what an edit will do
-- it gives this network, and touches these cells there
pub record IsPlanned (present : Net) (edit : Edit) (net : Net) (touched : List Cell) : Type 0 where
  pub gives : Gives present edit net
  pub are : AreTouched present net touched
  pub few : length touched ≤ 36352

-- why it will do nothing, whatever the cells' values are
abbrev pub IsUnplanned : Net → Edit → EditFault → Type 0
IsUnplanned present edit (UnknownName name) = Refuses (edited present edit) (UnknownName name)
IsUnplanned present edit (NameTaken name) = Refuses (edited present edit) (NameTaken name)
IsUnplanned present edit BadValue = Refuses (edited present edit) BadValue
IsUnplanned present edit LimitReached = Refuses (edited present edit) LimitReached
IsUnplanned present edit (Cycle walk) = IsCyclic present edit walk.items
IsUnplanned present edit (TooMany cell) = IsEditOver (edited present edit) cell limit.TooMany
IsUnplanned present edit (TooWide cell) = IsEditOver (edited present edit) cell limit.TooWide
IsUnplanned present edit NothingToUndo = ⊥
IsUnplanned present edit NoMemory = Unit {0}

-- ---- what is counted
-- there is a network to be evaluated: the edit gives it, and its servers have an order
pub record IsEvaluated (present : Net) (edit : Edit) : Type 0 where
  pub net : Net
  pub gives : Gives present edit net
  pub order : List ℕ
  pub servers : IsOrder net order

-- the operators of the touched cells of the edited network
pub record IsTouchedWork (present : Net) (edit : Edit) (count : ℕ) : Type 0 where
  pub net : Net
  pub gives : Gives present edit net
  pub touched : List Cell
  pub are : AreTouched present net touched
  pub is : count ≡ sum_by (work net) touched

-- those, or none where there is no edited network whose servers have an order
abbrev pub IsWorkOf : Net → Edit → ℕ → Type 0
IsWorkOf present edit count = IsTouchedWork present edit count ⊎ (¬ (IsEvaluated present edit) × (count ≡ 0))

-- ---- an edit that is looked at
-- the curve that the edit makes is over a limit, and there is no edited network
pub record MakesNone (present : Net) (edit : Edit) : Type 0 where
  pub cell : Cell
  pub which : OverLimit
  pub over : IsEditOver (edited present edit) cell which

-- the edited network; for an undo the one before; and where the edit makes no network for its curve, the present one
pub record IsShown {V : Type 0} (s : Stored V) (edit : Edit) (net : Net) : Type 0 where
  pub undo : edit ≡ Undo → (first : List Net) × (s.before ≡ first ++ net ∷ [])
  pub other : edit ≢ Undo → Gives s.present edit net ⊎ (MakesNone s.present edit × (net ≡ s.present))

-- the same refusals, but none for a cycle or a cell
abbrev pub IsHidden : {V : Type 0} → Stored V → Edit → EditFault → Type 0
IsHidden s edit (UnknownName name) = Refuses (edited s.present edit) (UnknownName name)
IsHidden s edit (NameTaken name) = Refuses (edited s.present edit) (NameTaken name)
IsHidden s edit BadValue = Refuses (edited s.present edit) BadValue
IsHidden s edit LimitReached = Refuses (edited s.present edit) LimitReached
IsHidden s edit (Cycle walk) = ⊥
IsHidden s edit (TooMany cell) = ⊥
IsHidden s edit (TooWide cell) = ⊥
IsHidden s edit NothingToUndo = (edit ≡ Undo) × (s.before ≡ [])
IsHidden s edit NoMemory = Unit {0}
