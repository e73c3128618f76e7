use Rattle.std.proofs.Common.{◌≡◌, max, drop}
use Rattle.port_bounds.specs.Incoming.{incoming, longest_frame_of}
use Rattle.port_bounds.proofs.arrivals.longest_of.Given as goal

abbrev pub invariant-loop-queue : goal.invariant-loop-queue
invariant-loop-queue l = max l.longest (longest_frame_of (incoming (drop l.queue-index l.queues))) ≡ longest_frame_of (incoming l.queues)
