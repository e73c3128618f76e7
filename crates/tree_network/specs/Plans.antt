-- A plan of a network: its spots, listed by where frames come from and by port, and an order of its ports.
use Rattle.std.specs.Prelude.{◌≡◌, ◌+◌, List, length}
use Rattle.tree_network.specs.declared.network.Network.{Network}
use Rattle.tree_network.specs.declared.fault.Fault.{Fault}
use Rattle.tree_network.specs.declared.fault.Fault.TheVariants.{Cycle, NoMemory}
use Rattle.tree_network.specs.declared.order.Plan.{Plan}
use Rattle.tree_network.specs.declared.spots.Spot.{Spot}
use Rattle.tree_network.specs.Spots.{spots_of}
use Rattle.tree_network.specs.Lists.{lists_of, AreBySource, AreByPort}
use Rattle.tree_network.specs.Orders.{IsOrderOf}
use Rattle.tree_network.specs.Rings.{IsToldRing}

pub record IsPlanOf (net : Network) (plan : Plan) : Type 0 where
  pub spots : plan.spots.items ≡ spots_of net
  pub sources : AreBySource (spots_of net) (length net.ports.items + 1) (lists_of plan.sources.items)
  pub at : AreByPort (spots_of net) (length net.ports.items) (length net.ports.items + 1) (lists_of plan.at.items)
  pub order : IsOrderOf (spots_of net) (length net.ports.items) plan.order.items

-- the ring of ports; want of memory is free
abbrev pub IsRingFault : List Spot → Fault → Type 0
IsRingFault spots (Cycle ports) = IsToldRing spots ports.items
IsRingFault spots NoMemory = Unit {0}

abbrev pub IsFault : Network → Fault → Type 0
IsFault net fault = IsRingFault (spots_of net) fault
