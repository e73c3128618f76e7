-- The first cell that is over a limit, stated by a table of the cells before it: past it there need be none. Own
-- choice.
use Rattle.std.specs.Prelude.{◌≡◌, ◌≢◌, ℕ, List, ◌∷◌, ◌++◌, Some, Ok, Err, Contains}
use Rattle.upp_limits.specs.declared.op_kind.OpFault.{OpFault}
use Rattle.upp_limits.specs.declared.op_kind.OpFault.TheVariants.{NoMemory}
use Rattle.net_model.specs.Networks.{Net}
use Rattle.net_cells.specs.declared.cell.Cell.{Cell}
use Rattle.net_cells.specs.Order.{evaluation_order}
use Rattle.net_cells.specs.CellFormulas.{formula}
use Rattle.net_cells.specs.Meanings.{Meaning, CellTable}
use Rattle.net_cells.specs.Answers.{Answers}

-- the cell has a value, and that is what its formula answers
pub record IsAnswered (net : Net) (at : CellTable) (c : Cell) : Type 0 where
  pub value : Meaning
  pub is : at c ≡ Some value
  pub answers : Answers at (formula net c) (Ok value)

-- each of some cells
abbrev pub AnswersAll : Net → CellTable → List Cell → Type 0
AnswersAll net at cells = (c : Cell) → Contains cells c → IsAnswered net at c

-- all cells before this one are answered, and an operator of this one is over a limit, the first one over the one that
-- the fault names
pub record FirstOver (net : Net) (order : List ℕ) (c : Cell) (fault : OpFault) : Type 0 where
  pub before : List Cell
  pub after : List Cell
  pub is : evaluation_order net order ≡ before ++ c ∷ after
  pub table : CellTable
  pub answered : AnswersAll net table before
  pub over : Answers table (formula net c) (Err fault)
  pub limit : fault ≢ NoMemory
