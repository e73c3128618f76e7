use Rattle.std.proofs.Common.{◌≡◌, ◌+◌, drop}
use Rattle.port_bounds.specs.Incoming.{incoming, longest_frames_of}
use Rattle.port_bounds.proofs.arrivals.longest_together.Given as goal

abbrev pub invariant-loop-queue : goal.invariant-loop-queue
invariant-loop-queue l = l.sum + longest_frames_of (incoming (drop l.queue-index l.queues)) ≡ longest_frames_of (incoming l.queues)
