-- A fork of three ports and one link over it, and a run of it that keeps all that a table asks and reaches the bound of
-- a branch.
use Rattle.std.specs.Prelude.{Option, Some, None, ◌≡◌, ◌≤◌, ◌*◌, ◌^◌, ℕ, List, [], ◌∷◌, get_or}
use Rattle.run_laws.specs.Cards.{whole, of_queue}
use Rattle.run_laws.specs.Delays.{hop_delays}
use Rattle.run_laws.specs.Views.{view}
use Rattle.tree_runs.specs.Trees.{flat}
use Rattle.tree_runs.specs.Branches.{delays_to}
use Rattle.worked_trees.specs.PacedFork.{over_the_fork}
use Rattle.tree_network.specs.Networks.{IsNetwork}
use Rattle.tree_network.specs.declared.network.Discipline.TheVariants.{Fifo}
use Rattle.tree_network.specs.declared.network.Link.{Link}
use Rattle.tree_network.specs.declared.network.Node.{Node}
use Rattle.tree_network.specs.declared.network.Network.{Network}
use Rattle.tree_network.specs.declared.network.Port.{Port}
use Rattle.tree_bounds.specs.Tables.{bounds_in, IsTableOf}
use Rattle.tree_bounds.specs.declared.analysis.Table.{Table}
use Rattle.tree_bounds.specs.guarantee.Guarantee.{IsRunOf, IsGuaranteed}
use Rattle.tree_bounds.specs.guarantee.Routes.{routes_of}

-- ---- the network
-- 100 bits a microsecond after a latency of 10 microseconds; its link takes so many picoseconds
abbrev pub slow_port : ℕ → Port
slow_port link = record {
  rate = 102400000000;
  pace = 102400000000;
  latency = 10000000;
  link = link;
  discipline = Fifo;
  gate = None;
}

abbrev pub node_behind : ℕ → Option ℕ → Node
node_behind port from = record { port = port; queue = 0; from = from }

-- frames of 12000 bits, one each 1000 microseconds, from port 0 to ports 1 and 2
pub record IsOverFork (link : Link) : Type 0 where
  pub frame : link.frame ≡ 12000
  pub gap : link.gap ≡ 1000000000
  pub jitter : link.jitter ≡ 0
  pub nodes : link.nodes.items ≡ node_behind 0 None ∷ node_behind 1 (Some 0) ∷ node_behind 2 (Some 0) ∷ []

pub record IsFork (net : Network) : Type 0 where
  pub ports : net.ports.items ≡ slow_port 5000000 ∷ slow_port 0 ∷ slow_port 0 ∷ []
  pub link : Link
  pub links : net.links.items ≡ link ∷ []
  pub over : IsOverFork link

-- ---- a frame waits for the latency at ports 0 and 1
pub record RunReachesBound (net : Network) : Type 0 where
  -- all that `tables_are_guaranteed` asks of the network and the run
  pub network : IsNetwork net
  pub run : IsRunOf net over_the_fork
  -- so it stays within each table; and it takes 265 microseconds to the end of port 1, 130 of them there
  pub guaranteed : (table : Table) → IsTableOf net table → IsGuaranteed net table over_the_fork
  pub its_stay : hop_delays (of_queue 0) over_the_fork.end (view (flat (routes_of net)) over_the_fork 1)
      ≡ whole 130 ∷ []
  pub its_delay : delays_to (routes_of net) over_the_fork 0 1 ≡ whole 265 ∷ []
  -- so that no table has a lesser bound there
  pub no_lesser : (table : Table) (bound : ℕ) → IsTableOf net table → get_or (bounds_in table 0) 1 None ≡ Some bound
      → 265 * 10 ^ 6 ≤ bound

abbrev pub ForkReachesBound : Type 0
ForkReachesBound = (net : Network) → IsFork net → RunReachesBound net
