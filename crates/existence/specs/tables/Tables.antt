-- A network has a table whose cells are all answered, or a cell that is the first over a limit. Own choice.
use Rattle.std.specs.Prelude.{◌≡◌, ◌⊎◌, ℕ, List, ◌∷◌, ◌++◌}
use Rattle.upp_limits.specs.declared.op_kind.OpFault.{OpFault}
use Rattle.net_model.specs.Networks.{Net}
use Rattle.net_model.specs.Accepted.{IsAccepted}
use Rattle.net_model.specs.Orders.{IsOrder}
use Rattle.net_cells.specs.declared.cell.Cell.{Cell}
use Rattle.net_cells.specs.Order.{evaluation_order}
use Rattle.net_cells.specs.CellFormulas.{formula}
use Rattle.net_cells.specs.Meanings.{CellTable}
use Rattle.net_cells.specs.Answers.{Answers}
use Rattle.net_cells.specs.FirstOver.{AnswersAll, FirstOver}
use Rattle.existence.specs.curves.Answered.{HasAnswer}

abbrev pub TableOrLimit : Net → List ℕ → Type 0
TableOrLimit net order =
    ((at : CellTable) × AnswersAll net at (evaluation_order net order)) ⊎ ((c : Cell) × (fault : OpFault) × FirstOver net order c fault)

-- the formula of each cell has an answer, by a table whose cells before it are answered
abbrev pub FormulasAreFound : Net → List ℕ → Type 0
FormulasAreFound net order = (before : List Cell) (c : Cell) (after : List Cell) (at : CellTable)
    → evaluation_order net order ≡ before ++ c ∷ after → AnswersAll net at before → HasAnswer (Answers at (formula net c))

abbrev pub TablesExist : Type 0
TablesExist = (net : Net) (order : List ℕ) → IsAccepted net → IsOrder net order → FormulasAreFound net order → TableOrLimit net order
