-- What evaluating a cell asks for, and what it gives. Own choice.
use Rattle.std.specs.Prelude.{◌≡◌, ℕ, ◌-◌, IsTrue, Err}
use Rattle.outcomes.specs.Spending.{Counts}
use Rattle.upp_limits.specs.declared.op_kind.OpFault.TheVariants.{NoMemory}
use Rattle.net_model.specs.Networks.{Net}
use Rattle.net_model.specs.Accepted.{IsAccepted}
use Rattle.net_cells.specs.declared.cell.Cell.{Cell}
use Rattle.net_cells.specs.Cells.{has_cell}
use Rattle.net_cells.specs.Meanings.{CellTable}
use Rattle.net_cells.specs.CellFormulas.{formula}
use Rattle.net_cells.specs.Answers.{Answer}
use Rattle.net_cells.specs.Equations.{MeetsBelow}
use Rattle.net_cells.specs.Work.{work}
use Rattle.net_cells.specs.Refusals.{Stops}
use Rattle.net_cells.specs.cell_table.Gives.{Gives}
use Rattle.cell_numbers.specs.Shapes.{Serving}
use Rattle.cell_numbers.specs.TableValues.{HasCurve, IsCurveAt}

-- a cell has the curve of what comes, and another that of what serves it
pub record AreServed (at : CellTable) (from service : Cell) : Type 0 where
  pub curve : IsCurveAt at from
  pub serves : HasCurve at service Serving

-- a cell may be made: it is one of the network, and all that it depends on meets its equations
pub record MayBeMade (net : Net) (at : CellTable) (c : Cell) : Type 0 where
  pub accepted : IsAccepted net
  pub exists : IsTrue (has_cell net c)
  pub below : MeetsBelow net at c

-- what comes of making it, with so many operators counted before and after
pub record Evaluates (net : Net) (at : CellTable) (c : Cell) (old new : ℕ) (r : Answer) : Type 0 where
  pub answer : Gives at (formula net c) r
  pub counts : Counts (work net c) old new r
  -- no limit of a counted operator is told as want of memory
  pub memory : r ≡ Err NoMemory → Stops at (formula net c) NoMemory (new - old)
