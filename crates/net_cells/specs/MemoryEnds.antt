-- Where an analysis ends for want of memory, by how many operators on curves are counted by then; and that no limit
-- of a counted one is told so. Own choice.
use Rattle.std.specs.Prelude.{◌≡◌, ◌≢◌, ℕ, ◌+◌, ◌<◌, List, ◌∷◌, ◌++◌, Ok, sum_by}
use Rattle.upp_limits.specs.declared.op_kind.OpFault.{OpFault}
use Rattle.upp_limits.specs.declared.op_kind.OpFault.TheVariants.{NoMemory}
use Rattle.net_model.specs.Networks.{Net}
use Rattle.net_model.specs.Accepted.{IsAccepted}
use Rattle.net_model.specs.Orders.{IsOrder}
use Rattle.net_cells.specs.declared.cell.Cell.{Cell}
use Rattle.net_cells.specs.Order.{evaluation_order}
use Rattle.net_cells.specs.Formulas.{Formula, operators}
use Rattle.net_cells.specs.CellFormulas.{formula}
use Rattle.net_cells.specs.Meanings.{Meaning, CellTable}
use Rattle.net_cells.specs.Answers.{Answers}
use Rattle.net_cells.specs.Refusals.{RefusedAt, Stops}
use Rattle.net_cells.specs.FirstOver.{AnswersAll, FirstOver}
use Rattle.net_cells.specs.Work.{work}

-- at a cell: in making its value, or in keeping the value that was made
pub data EndsAt (at : CellTable) (F : Formula) (n : ℕ) : Type 0 where
  making : Stops at F NoMemory n → EndsAt at F n
  keeping : (v : Meaning) → Answers at F (Ok v) → n ≡ operators F → EndsAt at F n

-- of these cells those before one are answered, and it ends at that one
pub record EndsAtCell (net : Net) (cells : List Cell) (n : ℕ) : Type 0 where
  pub before : List Cell
  pub cell : Cell
  pub after : List Cell
  pub is : cells ≡ before ++ cell ∷ after
  pub table : CellTable
  pub answered : AnswersAll net table before
  pub counted : ℕ
  pub ends : EndsAt table (formula net cell) counted
  pub count : n ≡ sum_by (work net) before + counted

-- before the first of them, or at one
pub data MemoryEnds (net : Net) (cells : List Cell) (n : ℕ) : Type 0 where
  at_none : n ≡ 0 → MemoryEnds net cells n
  at_cell : EndsAtCell net cells n → MemoryEnds net cells n

-- fewer operators are counted than up to the one of a cell that is over a limit, after the work of the cells before it;
-- by some table of these
pub record EndsSooner (net : Net) (before : List Cell) (c : Cell) (fault : OpFault) (n : ℕ) : Type 0 where
  pub table : CellTable
  pub answered : AnswersAll net table before
  pub place : ℕ
  pub over : RefusedAt table (formula net c) fault place
  pub fewer : n < sum_by (work net) before + place

-- so the operator that is over its limit is never counted where memory is told to be wanting
abbrev pub MemoryEndsSooner : Type 0
MemoryEndsSooner =
    (net : Net) (order : List ℕ) (c : Cell) (fault : OpFault) (n : ℕ) → IsAccepted net → IsOrder net order
    → (over : FirstOver net order c fault) → MemoryEnds net (evaluation_order net order) n
    → EndsSooner net over.before c fault n
