-- When there is no order.
use Rattle.net_model.specs.Networks.{Net}
use Rattle.net_model.specs.Walks.{IsCycle}
use Rattle.net_model.specs.declared.net_graph.placing.GraphFault.{GraphFault}
use Rattle.net_model.specs.declared.net_graph.placing.GraphFault.TheVariants.{Cycle, NoMemory}

-- the cycle of the network, or an allocation that was refused
abbrev pub IsGraphFault : Net → GraphFault → Type 0
IsGraphFault net (Cycle walk) = IsCycle net walk.items
IsGraphFault net NoMemory = Unit {0}
