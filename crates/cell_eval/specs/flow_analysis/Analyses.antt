-- What the analysis of a network goes over, and why there is none. Own choice.
use Rattle.std.specs.Prelude.{◌≡◌, ℕ, List, None, Contains}
use Rattle.upp_limits.specs.declared.op_kind.OpFault.{OpFault}
use Rattle.upp_limits.specs.declared.op_kind.OpFault.TheVariants as operator
use Rattle.net_model.specs.Networks.{Net}
use Rattle.net_model.specs.Orders.{IsOrder}
use Rattle.net_cells.specs.declared.cell.Cell.{Cell}
use Rattle.net_cells.specs.Meanings.{CellTable}
use Rattle.net_cells.specs.Order.{evaluation_order}
use Rattle.net_cells.specs.Equations.{MeetsEquations}
use Rattle.net_cells.specs.FirstOver.{AnswersAll, FirstOver}
use Rattle.net_cells.specs.declared.cell_table.fault.AnalysisFault.{AnalysisFault}
use Rattle.net_cells.specs.declared.cell_table.fault.AnalysisFault.TheVariants.{TooMany, TooWide, NoMemory}

-- all cells of a network whose servers have an order, in the order in which they are taken
pub record AreAllCells (net : Net) (cells : List Cell) : Type 0 where
  pub order : List ℕ
  pub servers : IsOrder net order
  pub are : cells ≡ evaluation_order net order

-- a table has nothing at other cells
abbrev pub HasNothingElse : CellTable → List Cell → Type 0
HasNothingElse at cells = (c : Cell) → ¬ (Contains cells c) → at c ≡ None

-- a table of these cells: they have the values that their formulas answer, the equations are met, and other cells have none
pub record IsAnalysisOf (net : Net) (cells : List Cell) (at : CellTable) : Type 0 where
  pub meets : MeetsEquations net at
  pub answers : AnswersAll net at cells
  pub nothing : HasNothingElse at cells

-- ---- refusals
-- of these cells this one is the first over a limit
abbrev pub IsFirstOver : Net → List Cell → Cell → OpFault → Type 0
IsFirstOver net cells c fault = (order : List ℕ) → cells ≡ evaluation_order net order → FirstOver net order c fault

-- why there is no table: the cell that is first over a limit, and which limit, or want of memory
abbrev pub IsRefusal : (Cell → OpFault → Type 0) → AnalysisFault → Type 0
IsRefusal IsFirst (TooMany c) = IsFirst c operator.TooMany
IsRefusal IsFirst (TooWide c) = IsFirst c operator.TooWide
IsRefusal IsFirst NoMemory = Unit {0}
