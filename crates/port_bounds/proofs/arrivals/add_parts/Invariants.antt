use Rattle.port_bounds.proofs.Queues.{Adding}
use Rattle.port_bounds.proofs.arrivals.add_parts.Given as goal

abbrev pub invariant-loop-queue : goal.invariant-loop-queue
invariant-loop-queue l = Adding l.queues l.queue-index l.initial.all.items l.all.items
