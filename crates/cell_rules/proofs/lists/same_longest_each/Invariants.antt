use Rattle.std.proofs.Common.{◌≡◌, map}
use Rattle.std.specs.List.{range_with_len}
use Rattle.net_cells.specs.Visits.{longest}
use Rattle.cell_rules.proofs.lists.same_longest_each.Given as goal

abbrev pub invariant-loop-queue : goal.invariant-loop-queue
invariant-loop-queue l = map (longest l.old l.server) (range_with_len 0 l.queue)
    ≡ map (longest l.new l.server) (range_with_len 0 l.queue)
