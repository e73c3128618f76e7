-- One server of a network, whether there is a cycle or not: what a table promises there, where the flows keep their
-- curves there. (Le Boudec and Thiran.)
use Rattle.std.specs.Prelude.{◌≡◌, ◌<◌, ℕ, length}
use Rattle.run_laws.specs.Runs.{SpecRun}
use Rattle.run_laws.specs.Cards.{of_flow}
use Rattle.run_laws.specs.Premises.{KeepsArrivals}
use Rattle.net_model.specs.Networks.{Net}
use Rattle.net_model.specs.Accepted.{IsAccepted}
use Rattle.net_cells.specs.declared.cell.Kind.TheVariants.{In}
use Rattle.net_cells.specs.Numbered.{hops, server_of_hop, queues}
use Rattle.net_cells.specs.Cells.{cell_of}
use Rattle.net_cells.specs.Meanings.{CellTable}
use Rattle.net_cells.specs.Equations.{MeetsEquations}
use Rattle.net_bounds.specs.NetRuns.{IsRunOf}
use Rattle.net_bounds.specs.TableValues.{HasFunction}
use Rattle.net_bounds.specs.Promises.{seen_by, IsHopKept, IsQueueKept}

-- each flow with a hop there comes with its curve
abbrev pub FlowsKeep : Net → CellTable → SpecRun → ℕ → Type 0
FlowsKeep net at run s = (i k : ℕ) → k < hops net i → server_of_hop net i k ≡ s
    → HasFunction at (cell_of In i k) (λ α. KeepsArrivals (of_flow i) α (seen_by net run s))

-- all its queues, and all hops there
pub record IsServerKept (net : Net) (at : CellTable) (run : SpecRun) (s : ℕ) : Type 0 where
  pub queues : (q : ℕ) → q < queues net s → IsQueueKept net at run s q
  pub hops : (i k : ℕ) → k < hops net i → server_of_hop net i k ≡ s → IsHopKept net at run i k

abbrev pub ServerKeeps : Type 0
ServerKeeps = (net : Net) (at : CellTable) (run : SpecRun) (s : ℕ) → IsAccepted net → MeetsEquations net at
    → IsRunOf net run → s < length net.servers → FlowsKeep net at run s → IsServerKept net at run s
