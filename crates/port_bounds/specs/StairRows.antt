-- What is promised of a queue of a port by stairs: the services are those by the lines of what arrives at the other queues.
use Rattle.std.specs.Prelude.{Option, Some, None, ◌≡◌, ◌*◌, ◌<◌, ℕ, zero, suc, List, length, get_or}
use Rattle.arrival_lines.specs.declared.grid.Queue.{Queue}
use Rattle.arrival_lines.specs.declared.grid.Service.{Service}
use Rattle.arrival_stairs.specs.declared.stairs.Bundle.{Bundle}
use Rattle.tree_network.specs.declared.network.Port.{Port}
use Rattle.port_bounds.specs.Services.{IsServiceOf, AreAll}
use Rattle.arrival_stairs.specs.Queues.{IsLeastOfBoth}
use Rattle.port_bounds.specs.StairsIncoming.{StairsIn, line_incomings, stairs_at}

-- over a list of all its services
pub record IsLeastStairRow (port : Port) (queues : List StairsIn) (q : ℕ) (bundles : List Bundle) (row : Option Queue) : Type 0 where
  pub services : List Service
  pub all : AreAll (IsServiceOf port (line_incomings queues) q) services
  pub least : IsLeastOfBoth bundles services (1024 * (stairs_at queues q).longest) row

-- a queue without links holds nothing; one whose arrivals nothing bounds has no promise
abbrev pub IsStairRowBy : Port → List StairsIn → ℕ → ℕ → Option (List Bundle) → Option Queue → Type 0
IsStairRowBy port queues q zero bundles row = row ≡ Some record { delay = 0; backlog = 0 }
IsStairRowBy port queues q (suc longest) None row = row ≡ None
IsStairRowBy port queues q (suc longest) (Some bundles) row = IsLeastStairRow port queues q bundles row

abbrev pub IsStairRow : Port → List StairsIn → ℕ → Option Queue → Type 0
IsStairRow port queues q row = IsStairRowBy port queues q (stairs_at queues q).longest (stairs_at queues q).bundles row

-- one for each queue
pub record AreStairRows (port : Port) (queues : List StairsIn) (rows : List (Option Queue)) : Type 0 where
  pub count : length rows ≡ length queues
  pub each : (q : ℕ) → q < length queues → IsStairRow port queues q (get_or rows q None)
