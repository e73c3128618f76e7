-- A network as runs over trees know it: ports as servers, links as trees of them.
use Rattle.std.specs.Prelude.{Option, Some, None, ℕ, true, List, map}
use Rattle.rational.specs.Rational.{ℚ}
use Rattle.tree_runs.specs.Trees as trees
use Rattle.tree_runs.specs.Trees.{Tree, TreeRoutes, IsOverTrees}
use Rattle.tree_runs.specs.Orders.{TreeGoesForward}
use Rattle.tree_network.specs.Orders.{IsNetworkOrder}
use Rattle.arrival_lines.specs.Grid.{micros}
use Rattle.tree_network.specs.Networks.{IsNetwork, node_at}
use Rattle.tree_network.specs.declared.network.Node.{Node}
use Rattle.tree_network.specs.declared.network.Port.{Port}
use Rattle.tree_network.specs.declared.network.Link.{Link}
use Rattle.tree_network.specs.declared.network.Network.{Network}
use Rattle.port_bounds.specs.Ports.{server_of}

-- the port from which a node's frames come
abbrev pub port_before : Link → Option ℕ → Option ℕ
port_before link None = None
port_before link (Some place) = Some (node_at link place).port

abbrev pub node_of : Link → Node → trees.Node
node_of link node = record { server = node.port; queue = node.queue; from = port_before link node.from }

abbrev pub tree_of_link : Link → Tree
tree_of_link link = record { live = true; nodes = map (node_of link) link.nodes.items }

abbrev pub link_time : Port → ℚ
link_time port = micros port.link

abbrev pub routes_of : Network → TreeRoutes
routes_of net = record {
  servers = map server_of net.ports.items;
  links = map link_time net.ports.items;
  flows = map tree_of_link net.links.items;
}

-- ---- laws
-- the links of a network in range are trees of its ports
abbrev pub NetworksAreTrees : Type 0
NetworksAreTrees = (net : Network) → IsNetwork net → IsOverTrees (routes_of net)

-- an order of the ports in which no link goes back is one of the servers of runs
abbrev pub OrdersGoForward : Type 0
OrdersGoForward = (net : Network) (order : List ℕ) → IsNetwork net → IsNetworkOrder net order
    → (place : ℕ → ℕ) × TreeGoesForward (routes_of net) place
