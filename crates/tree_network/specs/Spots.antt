-- The spots of a network: the nodes of all its links' trees, numbered in the order of the links and, of each link, of its nodes. Own choice.
use Rattle.std.specs.Prelude.{Option, Some, None, ◌≡◌, ◌<◌, ◌≤◌, ℕ, zero, suc, ◌+◌, List, [], ◌∷◌, ◌++◌, length, slice_get, get_or}
use Rattle.tree_network.specs.Networks.{node_at, port_at, queues_of, longest_frame, HangsBefore, IsNetwork}
use Rattle.tree_network.specs.declared.network.Link.{Link}
use Rattle.tree_network.specs.declared.network.Network.{Network}
use Rattle.tree_network.specs.declared.spots.Spot.{Spot}

abbrev pub no_spot : Spot
no_spot = record { link = 0; frame = 0; port = 0; queue = 0; source = 0; from = 0 }

abbrev pub spot_at : List Spot → ℕ → Spot
spot_at spots n = get_or spots n no_spot

-- ---- of a link
-- where frames come from: 0 where they begin, else one more than the number of the port before
abbrev pub source_in : Link → Option ℕ → ℕ
source_in link None = 0
source_in link (Some from) = (node_at link from).port + 1

-- the number of the spot before; its own where frames begin
abbrev pub number_before : (first place : ℕ) → Option ℕ → ℕ
number_before first place None = first + place
number_before first place (Some from) = first + from

-- that of a node of link i, whose first node has the number `first`
abbrev pub spot_of : (i first : ℕ) → Link → ℕ → Spot
spot_of i first link place = record {
  link = i;
  frame = link.frame;
  port = (node_at link place).port;
  queue = (node_at link place).queue;
  source = source_in link (node_at link place).from;
  from = number_before first place (node_at link place).from;
}

-- those of its first nodes
unfoldable pub spots_in : (i first : ℕ) → Link → ℕ → List Spot
spots_in i first link zero = []
spots_in i first link (suc place) = spots_in i first link place ++ spot_of i first link place ∷ []

abbrev pub spots_of_link : (i first : ℕ) → Option Link → List Spot
spots_of_link i first None = []
spots_of_link i first (Some link) = spots_in i first link (length link.nodes.items)

-- ---- of the network
-- those of its first links
unfoldable pub spots_below : Network → ℕ → List Spot
spots_below net zero = []
spots_below net (suc i) = spots_below net i ++ spots_of_link i (length (spots_below net i)) (slice_get net.links.items i)

abbrev pub spots_of : Network → List Spot
spots_of net = spots_below net (length net.links.items)

-- ---- what holds of each
-- each node of a link but the first hangs on one before it, at a port of few, in a queue of few
pub record HangsTogether (link : Link) : Type 0 where
  pub hangs : (place : ℕ) → place < length link.nodes.items → HangsBefore place (node_at link place).from
  pub ports : (place : ℕ) → place < length link.nodes.items → (node_at link place).port < 4096
  pub queues : (place : ℕ) → place < length link.nodes.items → (node_at link place).queue < 8

-- frames come from the spot before, which is of the same link
abbrev pub ComesFrom : List Spot → Spot → ℕ → ℕ → Type 0
ComesFrom spots spot n zero = spot.from ≡ n
ComesFrom spots spot n (suc a) = (spot.from < n) × ((spot_at spots spot.from).port ≡ a) × ((spot_at spots spot.from).link ≡ spot.link)

pub record IsSpot (net : Network) (spots : List Spot) (n : ℕ) (spot : Spot) : Type 0 where
  pub link : spot.link < length net.links.items
  pub port : spot.port < length net.ports.items
  pub queue : spot.queue < queues_of (port_at net spot.port).discipline
  pub some_frame : 1 ≤ spot.frame
  pub frame : spot.frame ≤ longest_frame
  pub source : spot.source ≤ length net.ports.items
  pub comes : ComesFrom spots spot n spot.source

-- they are as those of a network in range are
pub record AreSpots (net : Network) (spots : List Spot) : Type 0 where
  pub each : (n : ℕ) → n < length spots → IsSpot net spots n (spot_at spots n)

abbrev pub SpotsAreInRange : Type 0
SpotsAreInRange = (net : Network) → IsNetwork net → AreSpots net (spots_of net)
