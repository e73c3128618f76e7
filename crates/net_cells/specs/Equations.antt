-- When a table meets the equations of a network. (Le Boudec and Thiran; the equations are those of total-flow and
-- separate-flow analysis.)
use Rattle.std.specs.Prelude.{◌≡◌, List, Some, IsTrue, Contains}
use Rattle.net_model.specs.Networks.{Net}
use Rattle.net_cells.specs.declared.cell.Cell.{Cell}
use Rattle.net_cells.specs.Cells.{has_cell}
use Rattle.net_cells.specs.Formulas.{leaves}
use Rattle.net_cells.specs.CellFormulas.{formula}
use Rattle.net_cells.specs.Meanings.{Meaning, CellTable}
use Rattle.net_cells.specs.Means.{Means}

-- the cell has a value, and that is what its formula means
pub record MeetsEquation (net : Net) (at : CellTable) (c : Cell) : Type 0 where
  pub value : Meaning
  pub is : at c ≡ Some value
  pub means : Means at (formula net c) value

-- each cell of the network
abbrev pub MeetsEquations : Net → CellTable → Type 0
MeetsEquations net at = (c : Cell) → IsTrue (has_cell net c) → MeetsEquation net at c

-- each cell that c depends on: some cells that c is made of, with the cells that those are made of, and so on
pub record MeetsBelow (net : Net) (at : CellTable) (c : Cell) : Type 0 where
  pub cells : List Cell
  pub operands : (d : Cell) → Contains (leaves (formula net c)) d → Contains cells d
  pub closed : (d e : Cell) → Contains cells d → Contains (leaves (formula net d)) e → Contains cells e
  pub meet : (d : Cell) → Contains cells d → MeetsEquation net at d
