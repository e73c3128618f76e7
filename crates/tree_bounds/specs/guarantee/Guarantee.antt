-- What a table promises: in every lawful run over the network's trees whose links keep their frames, gaps and jitters and whose ports keep
-- their service curves, no frame stays longer at a queue than its delay, no queue holds more bits than its backlog, and no frame takes longer
-- from its entry to the end of the link behind a port of its tree than the bound there.
use Rattle.std.specs.Prelude.{Option, Some, None, ◌≡◌, ◌<◌, ℕ, length, get_or, slice_get}
use Rattle.rational.specs.Rational.{ℚ}
use Rattle.rational.specs.Extended.{Ext}
use Rattle.rational.specs.declared.Extended.TheVariants.{Fin, Inf}
use Rattle.min_plus.specs.Formulas.{stair_value}
use Rattle.run_laws.specs.Runs.{SpecRun}
use Rattle.run_laws.specs.Cards.{whole}
use Rattle.run_laws.specs.Bounds.{IsQueueBounded}
use Rattle.run_laws.specs.Delays.{AreAtMost}
use Rattle.tree_runs.specs.Trees.{flat, IsLawfulTree, KeepsTreePremises}
use Rattle.tree_runs.specs.Branches.{delays_to}
use Rattle.arrival_lines.specs.Grid.{micros}
use Rattle.arrival_lines.specs.declared.grid.Queue.{Queue}
use Rattle.tree_network.specs.Networks.{IsNetwork, port_at, node_at}
use Rattle.tree_network.specs.declared.network.Link.{Link}
use Rattle.tree_network.specs.declared.network.Network.{Network}
use Rattle.port_bounds.specs.Ports.{service_curve}
use Rattle.tree_bounds.specs.Tables.{row_in, bounds_in, IsTableOf}
use Rattle.tree_bounds.specs.declared.analysis.Table.{Table}
use Rattle.tree_bounds.specs.guarantee.Routes.{routes_of}

-- ---- of link i
abbrev pub frame_in : Option Link → ℕ
frame_in None = 0
frame_in (Some link) = link.frame

abbrev pub frame_of : Network → ℕ → ℕ
frame_of net i = frame_in (slice_get net.links.items i)

-- a frame each gap, each up to the jitter early: in bits by microseconds
abbrev pub stair_in : Option Link → ℚ → Ext
stair_in None t = Inf
stair_in (Some link) t = stair_value (whole link.frame) (micros link.gap) (micros link.jitter) t

abbrev pub stair_of : Network → ℕ → ℚ → Ext
stair_of net i t = stair_in (slice_get net.links.items i) t

-- ---- runs and what a table promises of them
-- a run that the network allows
pub record IsRunOf (net : Network) (run : SpecRun) : Type 0 where
  pub lawful : IsLawfulTree (routes_of net) run
  pub premises : KeepsTreePremises (routes_of net) (frame_of net) (stair_of net) (λ s. service_curve (port_at net s)) run

pub record IsGuaranteed (net : Network) (table : Table) (run : SpecRun) : Type 0 where
  pub queues : (s q : ℕ) (queue : Queue) → s < length net.ports.items → row_in table s q ≡ Some queue
      → IsQueueBounded (flat (routes_of net)) run s q (Fin (micros queue.delay)) (Fin (whole queue.backlog))
  pub branches : (i place bound : ℕ) (link : Link) → slice_get net.links.items i ≡ Some link → place < length link.nodes.items
      → get_or (bounds_in table i) place None ≡ Some bound
      → AreAtMost (Fin (micros bound)) (delays_to (routes_of net) run i (node_at link place).port)

abbrev pub TablesAreGuaranteed : Type 0
TablesAreGuaranteed = (net : Network) (table : Table) (run : SpecRun) → IsNetwork net → IsTableOf net table → IsRunOf net run → IsGuaranteed net table run
