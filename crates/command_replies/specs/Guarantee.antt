-- What a report promises of the runs of its network.
use Rattle.run_laws.specs.Runs.{SpecRun}
use Rattle.net_model.specs.Networks.{Net}
use Rattle.net_cells.specs.Meanings.{CellTable}
use Rattle.net_bounds.specs.NetRuns.{IsRunOf}
use Rattle.net_bounds.specs.Guarantee.{IsKept}

-- In every lawful run of the network that keeps each flow's longest packet and arrival curve and each server's service
-- curve, at each hop, in each queue and along each path what the table says is kept. An infinite number claims nothing.
abbrev pub Guarantees : Net → CellTable → Type 0
Guarantees net at = (run : SpecRun) → IsRunOf net run → IsKept net at run
