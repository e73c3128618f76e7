-- A network has a table that meets its equations, or a cell that is the first over a limit. Own choice.
use Rattle.std.specs.Prelude.{ℕ, List}
use Rattle.upp_limits.specs.declared.op_kind.OpFault.{OpFault}
use Rattle.net_model.specs.Networks.{Net}
use Rattle.net_model.specs.Accepted.{IsAccepted}
use Rattle.net_model.specs.Orders.{IsOrder}
use Rattle.net_cells.specs.declared.cell.Cell.{Cell}
use Rattle.net_cells.specs.Meanings.{CellTable}
use Rattle.net_cells.specs.Equations.{MeetsEquations}
use Rattle.net_cells.specs.FirstOver.{FirstOver}
use Rattle.existence.specs.tables.Tables.{TableOrLimit}
use Rattle.run_watch.specs.simulated_sizes.Laws.{AreCurves}

-- no cell is over a limit
abbrev pub NoneIsOver : Net → List ℕ → Type 0
NoneIsOver net order = (c : Cell) (fault : OpFault) → ¬ (FirstOver net order c fault)

-- all cells are answered by a table, or one is the first over a limit
abbrev pub TablesOrLimits : Type 0
TablesOrLimits = (net : Net) (order : List ℕ) → IsAccepted net → AreCurves net → IsOrder net order → TableOrLimit net order

-- where none is, a table meets the equations
abbrev pub NetworksHaveTables : Type 0
NetworksHaveTables =
    (net : Net) (order : List ℕ) → IsAccepted net → AreCurves net → IsOrder net order → NoneIsOver net order
    → (at : CellTable) × MeetsEquations net at
