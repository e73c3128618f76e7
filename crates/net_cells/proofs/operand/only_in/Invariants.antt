use Rattle.std.proofs.Common.{◌≡◌, eqb, take}
use Rattle.std.specs.List.{filter}
use Rattle.net_cells.specs.Numbered.{queue_of_hop}
use Rattle.net_cells.specs.Visits.{Visit}
use Rattle.net_cells.proofs.operand.only_in.Given as goal

abbrev pub invariant-loop-v : goal.invariant-loop-v
invariant-loop-v l = l.found.items ≡ filter (λ (x : Visit). eqb (queue_of_hop l.net x.flow x.hop) l.queue)
    (take l.v-index l.here)
