-- A lawful view of a port whose queues keep their parts, whose packets are no longer than their queue's longest frame and whose work keeps the
-- port's service curve; and what a row promises of a view: no packet of the queue stays longer than the delay, and the queue never holds more
-- bits than the backlog.
use Rattle.std.specs.Prelude.{Some, ◌≡◌, ℕ, List}
use Rattle.rational.specs.Rational.{ℚ, ◌≤ℚ◌}
use Rattle.rational.specs.Extended.{◌≤ₑ◌}
use Rattle.rational.specs.declared.Extended.TheVariants.{Fin}
use Rattle.run_laws.specs.Cards.{ServerStep, of_queue, whole}
use Rattle.run_laws.specs.Allows.{IsLawfulView}
use Rattle.run_laws.specs.Premises.{KeepsSizes, KeepsArrivals, KeepsService}
use Rattle.run_laws.specs.Delays.{hop_delays, AreAtMost, backlog}
use Rattle.arrival_lines.specs.Grid.{micros, parts_value}
use Rattle.arrival_lines.specs.declared.grid.Part.{Part}
use Rattle.arrival_lines.specs.declared.grid.Queue.{Queue}
use Rattle.tree_network.specs.declared.network.Port.{Port}
use Rattle.port_bounds.specs.Ports.{server_of, service_curve}
use Rattle.port_bounds.specs.Incoming.{Incoming, queue_in}

pub record IsSeenAt (port : Port) (queues : List Incoming) (end : ℚ) (view : List ServerStep) : Type 0 where
  pub lawful : IsLawfulView (server_of port) end view
  pub service : KeepsService (service_curve port) end view
  pub sizes : (q : ℕ) → KeepsSizes (of_queue q) (queue_in queues q).longest view
  pub arrivals : (q : ℕ) (parts : List Part) → (queue_in queues q).parts ≡ Some parts
      → KeepsArrivals (of_queue q) (λ t. Fin (parts_value parts t)) view

pub record IsHeld (queue : Queue) (q : ℕ) (end : ℚ) (view : List ServerStep) : Type 0 where
  pub delays : AreAtMost (Fin (micros queue.delay)) (hop_delays (of_queue q) end view)
  pub backlogs : (t : ℚ) → t ≤ℚ end → Fin (backlog (of_queue q) view t) ≤ₑ Fin (whole queue.backlog)
