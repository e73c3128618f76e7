use Rattle.std.proofs.Common.{◌≡◌, drop}
use Rattle.net_edits.specs.Values.{are_queues}
use Rattle.net_edits.proofs.ways.are_queues.Given as goal

abbrev pub invariant-loop-hop : goal.invariant-loop-hop
invariant-loop-hop l = are_queues l.net l.path l.lanes ≡ are_queues l.net (drop l.hop l.path) (drop l.hop l.lanes)
