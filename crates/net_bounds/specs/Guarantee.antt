-- The guarantee: what a table that meets the equations of a network promises of every run of it. (Le Boudec and Thiran;
-- Bouillard, Boyer and Le Corronc, feed-forward networks.)
use Rattle.std.specs.Prelude.{◌<◌, ℕ, List, IsTrue}
use Rattle.run_laws.specs.Runs.{SpecRun}
use Rattle.net_model.specs.Networks.{Net}
use Rattle.net_model.specs.Accepted.{IsAccepted}
use Rattle.net_model.specs.Orders.{IsOrder}
use Rattle.net_cells.specs.Numbered.{hops, queues, is_live}
use Rattle.net_cells.specs.Meanings.{CellTable}
use Rattle.net_cells.specs.Equations.{MeetsEquations}
use Rattle.net_bounds.specs.NetRuns.{IsRunOf}
use Rattle.net_bounds.specs.Promises.{IsHopKept, IsQueueKept, IsPathKept}

-- each hop of each live flow, each queue of each server, and each live flow from end to end
pub record IsKept (net : Net) (at : CellTable) (run : SpecRun) : Type 0 where
  pub hops : (i k : ℕ) → k < hops net i → IsHopKept net at run i k
  pub queues : (s q : ℕ) → q < queues net s → IsQueueKept net at run s q
  pub paths : (i : ℕ) → IsTrue (is_live net i) → IsPathKept net at run i

-- an accepted network whose servers have an order, so that it has no cycle; a table that meets its equations; and any
-- run of it
abbrev pub TableBoundsEveryRun : Type 0
TableBoundsEveryRun = (net : Net) (order : List ℕ) (at : CellTable) (run : SpecRun)
    → IsAccepted net → IsOrder net order → MeetsEquations net at → IsRunOf net run → IsKept net at run
