-- What rounding to the grid does to runs: those of the network that is written are runs of the one on the grid.
use Rattle.std.specs.Prelude.{ℕ, List}
use Rattle.run_laws.specs.Runs.{SpecRun}
use Rattle.tree_network.specs.declared.network.Network.{Network}
use Rattle.document_rows.specs.PortRows.{PortText}
use Rattle.document_tables.specs.declared.links.LinkKeys.{LinkKeys}
use Rattle.tree_bounds.specs.guarantee.Guarantee.{IsRunOf}
use Rattle.rounded_runs.specs.Written.{IsRounded, IsWrittenRun}

-- a run of the network that is written is one of each network that has its numbers on the grid
abbrev pub WrittenRunsAreRuns : Type 0
WrittenRunsAreRuns = (overhead : ℕ) (texts : List PortText) (keys : List LinkKeys) (net : Network) (run : SpecRun)
    → IsRounded overhead texts keys net → IsWrittenRun overhead texts keys net run → IsRunOf net run
