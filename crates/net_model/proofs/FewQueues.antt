-- How many queues a server has at most.
use Rattle.std.proofs.Common.{◌≤◌, arith}
use Rattle.run_laws.specs.Servers.{Discipline, Fifo, Priority, Drr, queue_count}
use Rattle.net_model.specs.Accepted.{HasFewQueues}

pub few_of : (d : Discipline) → HasFewQueues d → queue_count d ≤ 8
few_of Fifo h = omega arith
few_of (Priority n) h = h.1
few_of (Drr quanta) h = h.0.1
