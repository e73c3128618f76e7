-- The bound of a table is that of every table that meets the equations.
use Rattle.std.specs.Prelude.{◌≡◌, ℕ, List, Some, IsTrue}
use Rattle.std.proofs.Common.{◌∙◌}
use Rattle.rational.specs.Rational.{ℚ}
use Rattle.rational.specs.declared.Extended.TheVariants.{Fin}
use Rattle.net_model.specs.Accepted.{IsAccepted}
use Rattle.net_model.specs.Networks.{Net}
use Rattle.net_model.specs.Orders.{IsOrder}
use Rattle.net_cells.specs.declared.cell.Kind.TheVariants.{Bound}
use Rattle.net_cells.specs.Cells.{cell_of, has_cell}
use Rattle.net_cells.specs.Equations.{MeetsEquations}
use Rattle.net_cells.specs.Meanings.{number, CellTable}
use Rattle.net_cells.proofs.Tables.{tables_agree}
use Rattle.worked_runs.specs.Reached.{HasBound}

pub bound_by : (net : Net) (order : List ℕ) (flow : ℕ) (bound : ℚ) (table : CellTable) → IsAccepted net → IsOrder net order
    → MeetsEquations net table → IsTrue (has_cell net (cell_of Bound flow 0)) → table (cell_of Bound flow 0) ≡ Some (number (Fin bound))
    → HasBound net order flow bound
bound_by net order flow bound table accepted ordered meets has is = record {
  accepted = accepted;
  ordered = ordered;
  table = table;
  meets = meets;
  its_bound = λ at m. tables_agree net order at table accepted ordered m meets (cell_of Bound flow 0) has ∙ is;
}
