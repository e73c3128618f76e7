-- Why a queue has no promise: nothing bounds what comes there, or what is served before it; or its load is above the rate; or each delay is
-- of 2 ^ 50 picoseconds or more.
use Rattle.std.specs.Prelude.{Option, Some, None, ◌≡◌, ◌⊎◌, ◌+◌, ◌*◌, ◌<◌, ◌≤◌, ◌^◌, ◌++◌, ℕ, List, [], length, map}
use Rattle.arrival_lines.specs.Delays.{IsDelayAt, IsNever}
use Rattle.arrival_lines.specs.declared.grid.Part.{Part}
use Rattle.arrival_lines.specs.declared.grid.Service.{Service}
use Rattle.arrival_stairs.specs.declared.stairs.Bundle.{Bundle}
use Rattle.arrival_stairs.specs.declared.stairs.Stair.{Stair}
use Rattle.arrival_stairs.specs.Stays.{IsStay}
use Rattle.port_bounds.specs.Incoming.{Incoming, queue_in, joined_parts, before, behind}
use Rattle.port_bounds.specs.Ports.{rate_behind}
use Rattle.port_bounds.specs.Ranges.{sum_of}
use Rattle.port_bounds.specs.Services.{IsServiceOf}
use Rattle.port_bounds.specs.StairsIncoming.{StairsIn, stairs_at}
use Rattle.tree_network.specs.Networks.{port_at, queues_of}
use Rattle.tree_network.specs.declared.network.Discipline.{Discipline}
use Rattle.tree_network.specs.declared.network.Discipline.TheVariants.{Fifo, Priority, Drr}
use Rattle.tree_network.specs.declared.network.Network.{Network}
use Rattle.tree_network.specs.declared.network.Port.{Port}
use Rattle.tree_bounds.specs.Bunches.{arriving_of}
use Rattle.tree_bounds.specs.Equations.{MeetsEquations, arrivals_of, comes_to}
use Rattle.tree_bounds.specs.Tables.{row_in, IsTableOf}
use Rattle.tree_bounds.specs.declared.analysis.Table.{Table}

-- the queues that may be served before queue q
abbrev pub first_served : Discipline → ℕ → List Incoming → List Incoming
first_served Fifo q queues = []
first_served (Priority n) q queues = before q queues
first_served (Drr quanta) q queues = before q queues ++ behind q queues

-- the rates of the links of some parts together
abbrev pub rates_of : Option (List Part) → ℕ
rates_of parts = sum_of (λ part. part.sum.rate) parts

-- a service that is slower than such links
abbrev pub IsSlow : Service → Option (List Part) → Type 0
IsSlow service parts = (service.rate ≡ 0) ⊎ (service.rate < rates_of parts)

-- each service of the queue is slower than its links; and those that may be served before take the whole rate, or leave less than its own
pub record IsOverloaded (port : Port) (queues : List Incoming) (q : ℕ) : Type 0 where
  pub slow : (service : Service) → IsServiceOf port queues q service → IsSlow service (queue_in queues q).parts
  pub load : (rate_behind port.gate port.rate ≤ rates_of (joined_parts (first_served port.discipline q queues)))
      ⊎ (rate_behind port.gate port.rate < rates_of (joined_parts (first_served port.discipline q queues)) + rates_of (queue_in queues q).parts)

-- some service is as fast as the queue's links, and each that has a delay, by lines or by stairs, has one of 2 ^ 50 picoseconds or more
pub record IsLong (port : Port) (queues : List Incoming) (stairs : List StairsIn) (q : ℕ) : Type 0 where
  pub parts : List Part
  pub parts_are : (queue_in queues q).parts ≡ Some parts
  pub bundles : List Bundle
  pub bundles_are : (stairs_at stairs q).bundles ≡ Some bundles
  pub service : Service
  pub is : IsServiceOf port queues q service
  pub some : 0 < service.rate
  pub fast : rates_of (queue_in queues q).parts ≤ service.rate
  pub serves : IsNever parts service → ⊥
  pub lines : (other : Service) (delay : ℕ) → IsServiceOf port queues q other → IsDelayAt parts other delay → 2 ^ 50 ≤ delay
  pub by_stairs : (other : Service) (delay backlog : ℕ) → IsServiceOf port queues q other
      → IsStay bundles other (1024 * (stairs_at stairs q).longest) delay backlog → 2 ^ 50 ≤ delay

-- what arrives at the port's queues is given by lines and as stairs
pub data IsCause (port : Port) (queues : List Incoming) (stairs : List StairsIn) (q : ℕ) : Type 0 where
  unbounded : (queue_in queues q).parts ≡ None → IsCause port queues stairs q
  unbounded_before : joined_parts (first_served port.discipline q queues) ≡ None → IsCause port queues stairs q
  overloaded : IsOverloaded port queues q → IsCause port queues stairs q
  long : IsLong port queues stairs q → IsCause port queues stairs q

-- of each queue that has no promise in a table
pub record IsCausedIn (net : Network) (table : Table) (s q : ℕ) : Type 0 where
  pub stair : ℕ → Option Stair
  pub equations : MeetsEquations net (row_in table) stair
  pub stairs : List StairsIn
  pub are : map arriving_of stairs ≡ comes_to net stair s
  pub cause : IsCause (port_at net s) (arrivals_of net stair s) stairs q

abbrev pub NoneHasACause : Type 0
NoneHasACause = (net : Network) (table : Table) (s q : ℕ) → IsTableOf net table → s < length net.ports.items → q < queues_of (port_at net s).discipline
    → row_in table s q ≡ None → IsCausedIn net table s q
