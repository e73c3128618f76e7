-- Which networks are meant: the limits of their numbers, and links that are trees over their ports. Own choice.
use Rattle.std.specs.Prelude.{Option, Some, None, ◌≡◌, ◌<◌, ◌≤◌, ◌*◌, ◌^◌, ℕ, length, All, get_or}
use Rattle.tree_network.specs.declared.network.Discipline.{Discipline}
use Rattle.tree_network.specs.declared.network.Discipline.TheVariants.{Fifo, Priority, Drr}
use Rattle.tree_network.specs.declared.network.Gate.{Gate}
use Rattle.tree_network.specs.declared.network.Port.{Port}
use Rattle.tree_network.specs.declared.network.Node.{Node}
use Rattle.tree_network.specs.declared.network.Link.{Link}
use Rattle.tree_network.specs.declared.network.Network.{Network}

-- ---- numbers
-- no time is above 1,000 seconds, in picoseconds
unfoldable pub longest_time : ℕ
longest_time = 10 ^ 15

-- no rate is above 10 ^ 12 bits a second, in grains a second
unfoldable pub fastest : ℕ
fastest = 1024 * 10 ^ 12

-- no frame and no quantum is above 2 MiB, in bits
unfoldable pub longest_frame : ℕ
longest_frame = 2 ^ 24

-- ---- ports
abbrev pub queues_of : Discipline → ℕ
queues_of Fifo = 1
queues_of (Priority n) = n
queues_of (Drr quanta) = length quanta.items

abbrev pub GateIsInRange : Option Gate → Type 0
GateIsInRange None = Unit {0}
GateIsInRange (Some gate) = (1 ≤ gate.slot) × (gate.slot ≤ gate.cycle) × (gate.cycle ≤ longest_time)

abbrev pub QuantaAreInRange : Discipline → Type 0
QuantaAreInRange Fifo = Unit {0}
QuantaAreInRange (Priority n) = Unit {0}
QuantaAreInRange (Drr quanta) = All (λ q. (1 ≤ q) × (q ≤ longest_frame)) quanta.items

pub record PortIsInRange (port : Port) : Type 0 where
  pub some_rate : 1 ≤ port.rate
  pub rate : port.rate ≤ port.pace
  pub pace : port.pace ≤ fastest
  pub latency : port.latency ≤ longest_time
  pub link : port.link ≤ longest_time
  pub gate : GateIsInRange port.gate
  pub some_queue : 1 ≤ queues_of port.discipline
  pub queues : queues_of port.discipline ≤ 8
  pub quanta : QuantaAreInRange port.discipline

-- the port of a number; what is beyond the last means nothing
abbrev pub no_port : Port
no_port = record { rate = 1; pace = 1; latency = 0; link = 0; discipline = Fifo; gate = None }

abbrev pub port_at : Network → ℕ → Port
port_at net s = get_or net.ports.items s no_port

-- ---- links
-- the first node of a tree hangs on none, each other one on one before it
abbrev pub HangsBefore : ℕ → Option ℕ → Type 0
HangsBefore place None = place ≡ 0
HangsBefore place (Some from) = from < place

-- a frame of so many bits fits the quantum of its queue
abbrev pub FitsQuantum : Discipline → ℕ → ℕ → Type 0
FitsQuantum Fifo queue frame = Unit {0}
FitsQuantum (Priority n) queue frame = Unit {0}
FitsQuantum (Drr quanta) queue frame = frame ≤ get_or quanta.items queue 0

pub record IsNodeAt (net : Network) (link : Link) (place : ℕ) (node : Node) : Type 0 where
  pub port : node.port < length net.ports.items
  pub queue : node.queue < queues_of (port_at net node.port).discipline
  pub hangs : HangsBefore place node.from
  pub fits : FitsQuantum (port_at net node.port).discipline node.queue link.frame

abbrev pub no_node : Node
no_node = record { port = 0; queue = 0; from = None }

abbrev pub node_at : Link → ℕ → Node
node_at link place = get_or link.nodes.items place no_node

pub record IsLink (net : Network) (link : Link) : Type 0 where
  pub some_frame : 1 ≤ link.frame
  pub frame : link.frame ≤ longest_frame
  pub some_gap : 1 ≤ link.gap
  pub gap : link.gap ≤ longest_time
  pub jitter : link.jitter ≤ longest_time
  pub some_node : 1 ≤ length link.nodes.items
  pub nodes : (place : ℕ) → place < length link.nodes.items → IsNodeAt net link place (node_at link place)
  -- no port twice
  pub once : (a b : ℕ) → a < b → b < length link.nodes.items → (node_at link a).port ≡ (node_at link b).port → ⊥

-- ---- networks
pub record IsNetwork (net : Network) : Type 0 where
  pub few_ports : length net.ports.items ≤ 4096
  pub few_links : length net.links.items ≤ 16384
  pub ports : All PortIsInRange net.ports.items
  pub links : All (IsLink net) net.links.items
