-- Why an edit is refused, and which network has the names that are told then. Own choice.
use Rattle.std.specs.Prelude.{◌≡◌, ◌⊎◌, ℕ, List, [], Ok}
use Rattle.upp_limits.specs.LimitTest.{fault_of}
use Rattle.upp_limits.specs.declared.op_kind.OpFault.{OpFault}
use Rattle.upp_limits.specs.declared.own_limits.OverLimit.{OverLimit}
use Rattle.upp_limits.specs.declared.own_limits.OverLimit.TheVariants as limit
use Rattle.net_model.specs.declared.edit.Edit.{Edit}
use Rattle.net_model.specs.declared.edit.Edit.TheVariants.{Undo}
use Rattle.net_model.specs.Networks.{Net}
use Rattle.net_model.specs.Accepted.{IsAccepted}
use Rattle.net_model.specs.Orders.{IsOrder}
use Rattle.net_model.specs.Walks.{IsCycle}
use Rattle.net_cells.specs.declared.cell.Cell.{Cell}
use Rattle.net_cells.specs.FirstOver.{FirstOver}
use Rattle.net_edits.specs.declared.fault.EditFault.{EditFault}
use Rattle.net_edits.specs.declared.fault.EditFault.TheVariants.{UnknownName, NameTaken, BadValue, LimitReached, Cycle, TooMany, TooWide, NothingToUndo, NoMemory}
use Rattle.net_edits.specs.Edited.{Edited, edited}
use Rattle.net_edits.specs.Replies.{Refuses, IsEditOver}
use Rattle.cell_store.specs.edit_store.Stored.{AreTouched}
use Rattle.cell_store.specs.edit_store.Applied.{Gives, Touched}
use Rattle.commands.specs.edit.NetHistories.{NetHistory}

-- no rule of edits refuses the edit
pub record BreaksNoRule (present : Net) (edit : Edit) : Type 0 where
  pub made : Edited
  pub is : edited present edit ≡ Ok made

-- ---- of the edited network
-- its flows go round
pub record GoesRound (present : Net) (edit : Edit) (walk : List ℕ) (net : Net) : Type 0 where
  pub gives : Gives present edit net
  pub accepted : IsAccepted net
  pub cycle : IsCycle net walk

-- its servers have an order, the edit touches these cells, and this one of them is the first of all that is over a limit
pub record HasCellOver (present : Net) (edit : Edit) (cell : Cell) (fault : OpFault) (net : Net) : Type 0 where
  pub gives : Gives present edit net
  pub accepted : IsAccepted net
  pub order : List ℕ
  pub ordered : IsOrder net order
  pub all_touched : List Cell
  pub are : AreTouched present net all_touched
  pub touched : Touched present net cell
  pub first : FirstOver net order cell fault

-- the curve that the edit makes is over the limit, and the names are those of the present network; or else a cell is
abbrev pub IsOverBy : Net → Edit → Cell → OverLimit → Net → Type 0
IsOverBy present edit cell limit net =
    (IsEditOver (edited present edit) cell limit × (net ≡ present)) ⊎ HasCellOver present edit cell (fault_of limit) net

-- ---- all of them
-- the edit is refused for this, and the names are told by this network, where one is needed
abbrev pub IsCause : NetHistory → Edit → EditFault → Net → Type 0
IsCause h edit (UnknownName name) net = Refuses (edited h.present edit) (UnknownName name)
IsCause h edit (NameTaken name) net = Refuses (edited h.present edit) (NameTaken name)
IsCause h edit BadValue net = Refuses (edited h.present edit) BadValue
IsCause h edit LimitReached net = Refuses (edited h.present edit) LimitReached
IsCause h edit (Cycle walk) net = GoesRound h.present edit walk.items net
IsCause h edit (TooMany cell) net = IsOverBy h.present edit cell limit.TooMany net
IsCause h edit (TooWide cell) net = IsOverBy h.present edit cell limit.TooWide net
IsCause h edit NothingToUndo net = (edit ≡ Undo) × (h.before ≡ [])
IsCause h edit NoMemory net = ⊥
