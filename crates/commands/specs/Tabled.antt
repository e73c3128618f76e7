-- What comes of a network before anything is told of it: a table of all its cells, or the reply that it stops with.
use Rattle.std.specs.Prelude.{◌≡◌, ◌⊎◌, ◌≤◌, ℕ, List, Result}
use Rattle.net_model.specs.Networks.{Net}
use Rattle.net_model.specs.Orders.{IsOrder}
use Rattle.net_model.specs.Walks.{IsCycle}
use Rattle.net_cells.specs.Meanings.{CellTable}
use Rattle.command_replies.specs.CellWork.{work_of_cells}
use Rattle.command_replies.specs.OnFiles.{OnCycle, IsOver, IsTableOf}
use Rattle.command_replies.specs.Replies.{Reply}
use Rattle.outcomes.specs.Spending.{Counts}
use Rattle.outcomes.specs.Stages.{Behind}

-- its servers have an order, and this is a table of its cells
pub record HasTable (net : Net) (at : CellTable) : Type 0 where
  pub order : List ℕ
  pub ordered : IsOrder net order
  pub table : IsTableOf net order at

-- a cycle; or by the order of its servers the first cell over a limit
abbrev pub IsStopped : Net → Reply → Type 0
IsStopped net reply = OnCycle net reply ⊎ Behind (IsOrder net) (IsOver net) reply

-- the work of all cells is counted, where there is an order; none by a cycle
pub record CountsOnTable {A E : Type 0} (net : Net) (old new : ℕ) (r : Result A E) : Type 0 where
  pub rises : old ≤ new
  pub counts : (order : List ℕ) → IsOrder net order → Counts (work_of_cells net order) old new r
  pub round : (walk : List ℕ) → IsCycle net walk → new ≡ old
