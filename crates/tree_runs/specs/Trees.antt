-- Networks whose flows are trees of servers (multicast): a packet that leaves a server goes to each server that hangs
-- on it.
use Rattle.std.specs.Prelude.{Option, Some, None, ◌≡◌, ℕ, Bool, true, false, ◌==◌, List, [], ◌∷◌, ◌++◌, get_or, map, if◌then◌else◌}
use Rattle.rational.specs.Rational.{ℚ}
use Rattle.rational.specs.Extended.{Ext}
use Rattle.run_laws.specs.Runs.{SpecRun}
use Rattle.run_laws.specs.RunPremises.{KeepsPremises}
use Rattle.run_laws.specs.Servers.{Server}
use Rattle.run_laws.specs.Routes.{Hop, Route, Routes, PassesServer}
use Rattle.net_laws.specs.Paths.{IsPath}
use Rattle.net_laws.specs.Multicast.{NextServers, IsLawfulBy}

-- a server of a tree, the queue there, and the server on which it hangs, if any
pub record Node : Type 0 where
  pub server : ℕ
  pub queue : ℕ
  pub from : Option ℕ

-- packets of a flow that is not live do not enter
pub record Tree : Type 0 where
  pub live : Bool
  pub nodes : List Node

-- `links`: for each server, how long a packet that leaves it is on the way to each next server, or to the flow's end
pub record TreeRoutes : Type 0 where
  pub servers : List Server
  pub links : List ℚ
  pub flows : List Tree

abbrev pub tree_of : TreeRoutes → ℕ → Tree
tree_of net flow = get_or net.flows flow record { live = false; nodes = [] }

-- ---- what a server needs to know of a tree: which servers it has, with which queues, and which is the first
abbrev pub hop_of : Node → Hop
hop_of n = record { server = n.server; queue = n.queue }

abbrev pub hops_in : List Node → List Hop
hops_in ns = map hop_of ns

abbrev pub flat_tree : Tree → Route
flat_tree t = record { live = t.live; hops = hops_in t.nodes }

abbrev pub flat : TreeRoutes → Routes
flat net = record { servers = net.servers; links = net.links; flows = map flat_tree net.flows }

-- ---- the servers that hang on server s
abbrev pub is_from : ℕ → Option ℕ → Bool
is_from s None = false
is_from s (Some p) = p == s

abbrev pub hanging_on : ℕ → List Node → List ℕ
hanging_on s [] = []
hanging_on s (n ∷ ns) = if is_from s n.from then n.server ∷ hanging_on s ns else hanging_on s ns

abbrev pub next_servers : TreeRoutes → NextServers
next_servers net flow s = hanging_on s (tree_of net flow).nodes

-- the server on which server s hangs
abbrev pub tree_server_before : ℕ → List Node → Option ℕ
tree_server_before s [] = None
tree_server_before s (n ∷ ns) = if n.server == s then n.from else tree_server_before s ns

-- for flow i, server b hangs on server a
abbrev pub Hangs : TreeRoutes → ℕ → ℕ → ℕ → Type 0
Hangs net i a b = tree_server_before b (tree_of net i).nodes ≡ Some a

-- ---- trees
-- the first of a list hangs on none, each other one on one before it
abbrev pub HangsOn : Option ℕ → List Node → Type 0
HangsOn None done = done ≡ []
HangsOn (Some p) done = PassesServer p (hops_in done)

abbrev pub EachHangs : List Node → List Node → Type 0
EachHangs done [] = Unit {0}
EachHangs done (n ∷ ns) = HangsOn n.from done × EachHangs (done ++ n ∷ []) ns

-- over servers of the network, none of them twice, no link takes less than no time, and they hang together
pub record IsTree (net : TreeRoutes) (i : ℕ) : Type 0 where
  pub servers : IsPath (flat net) (hops_in (tree_of net i).nodes)
  pub hangs : EachHangs [] (tree_of net i).nodes

-- each live flow has a tree
abbrev pub IsOverTrees : TreeRoutes → Type 0
IsOverTrees net = (i : ℕ) → (tree_of net i).live ≡ true → IsTree net i

-- ---- runs
abbrev pub IsLawfulTree : TreeRoutes → SpecRun → Type 0
IsLawfulTree net run = IsLawfulBy (flat net) (next_servers net) run

-- by each flow's longest packet and its arrival curve where it enters, and each server's service curve
abbrev pub KeepsTreePremises : TreeRoutes → (ℕ → ℕ) → (ℕ → ℚ → Ext) → (ℕ → ℚ → Ext) → SpecRun → Type 0
KeepsTreePremises net packet α β run = KeepsPremises (flat net) packet α β run
