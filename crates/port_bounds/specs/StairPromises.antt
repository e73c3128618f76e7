-- What a row by stairs promises: in every lawful view of the port whose queues keep their bundles, whose packets are no longer than their queue's
-- longest frame and whose work keeps the port's service curve, no packet of the queue stays longer than the delay, and the queue never holds
-- more bits than the backlog.
use Rattle.std.specs.Prelude.{Some, ◌≡◌, ◌<◌, ℕ, List, length}
use Rattle.rational.specs.Rational.{ℚ}
use Rattle.rational.specs.declared.Extended.TheVariants.{Fin}
use Rattle.run_laws.specs.Cards.{ServerStep, of_queue}
use Rattle.run_laws.specs.Allows.{IsLawfulView}
use Rattle.run_laws.specs.Premises.{KeepsSizes, KeepsArrivals, KeepsService}
use Rattle.arrival_lines.specs.declared.grid.Queue.{Queue}
use Rattle.arrival_stairs.specs.Stairs.{bundles_at}
use Rattle.arrival_stairs.specs.declared.stairs.Bundle.{Bundle}
use Rattle.tree_network.specs.Networks.{PortIsInRange, queues_of}
use Rattle.tree_network.specs.declared.network.Port.{Port}
use Rattle.port_bounds.specs.Ports.{server_of, service_curve}
use Rattle.port_bounds.specs.Promises.{IsHeld}
use Rattle.port_bounds.specs.StairsIncoming.{AreStairsInRange, StairsIn, stairs_at}
use Rattle.port_bounds.specs.StairRows.{IsStairRow}

pub record AreStairsSeenAt (port : Port) (queues : List StairsIn) (end : ℚ) (view : List ServerStep) : Type 0 where
  pub lawful : IsLawfulView (server_of port) end view
  pub service : KeepsService (service_curve port) end view
  pub sizes : (q : ℕ) → KeepsSizes (of_queue q) (stairs_at queues q).longest view
  pub arrivals : (q : ℕ) (bundles : List Bundle) → (stairs_at queues q).bundles ≡ Some bundles
      → KeepsArrivals (of_queue q) (λ t. Fin (bundles_at bundles t)) view

abbrev pub StairRowsAreHeld : Type 0
StairRowsAreHeld = (port : Port) (queues : List StairsIn) (q : ℕ) (queue : Queue) (end : ℚ) (view : List ServerStep)
    → PortIsInRange port → AreStairsInRange queues → length queues ≡ queues_of port.discipline → q < length queues
    → IsStairRow port queues q (Some queue) → AreStairsSeenAt port queues end view → IsHeld queue q end view
