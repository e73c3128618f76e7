-- What is said of a worked run: it is a run of its network, one packet of a flow takes so long in it, and the network
-- has a table; the flow's bound there is that of every table that meets the equations. (Le Boudec and Thiran; Bouillard,
-- Boyer and Le Corronc: total-flow and separate-flow analysis. The networks and the runs are our own choice.)
use Rattle.std.specs.Prelude.{◌≡◌, ℕ, List, [], ◌∷◌, Some}
use Rattle.rational.specs.Rational.{ℚ}
use Rattle.rational.specs.declared.Extended.TheVariants.{Fin}
use Rattle.run_laws.specs.Runs.{SpecRun}
use Rattle.run_laws.specs.FlowDelays.{delays}
use Rattle.net_model.specs.Networks.{Net}
use Rattle.net_model.specs.Accepted.{IsAccepted}
use Rattle.net_model.specs.Orders.{IsOrder}
use Rattle.net_cells.specs.declared.cell.Kind.TheVariants.{Bound}
use Rattle.net_cells.specs.Cells.{cell_of}
use Rattle.net_cells.specs.Equations.{MeetsEquations}
use Rattle.net_cells.specs.Meanings.{CellTable, number}
use Rattle.net_bounds.specs.NetRuns.{routes_of, IsRunOf}

-- a network that is accepted and whose servers have an order; a table that meets its equations; and the flow's bound in
-- each table that does
pub record HasBound (net : Net) (order : List ℕ) (flow : ℕ) (bound : ℚ) : Type 0 where
  pub accepted : IsAccepted net
  pub ordered : IsOrder net order
  pub table : CellTable
  pub meets : MeetsEquations net table
  pub its_bound : (at : CellTable) → MeetsEquations net at
      → at (cell_of Bound flow 0) ≡ Some (number (Fin bound))

-- the run keeps all that is asked of it, and the flow's one packet takes that long, links included
pub record HasDelay (net : Net) (run : SpecRun) (flow : ℕ) (delay : ℚ) : Type 0 where
  pub is_run : IsRunOf net run
  pub its_delay : delays (routes_of net) run flow ≡ delay ∷ []

-- the packet takes exactly as long as the bound
pub record ReachesItsBound (net : Net) (order : List ℕ) (run : SpecRun) (flow : ℕ) (bound : ℚ) : Type 0 where
  pub has_bound : HasBound net order flow bound
  pub has_delay : HasDelay net run flow bound
