use Rattle.std.proofs.Common.{◌≡◌}
use Rattle.std.specs.List.{flat_map, range_with_len}
use Rattle.net_cells.specs.Numbered.{path}
use Rattle.net_cells.specs.Visits.{hops_at}
use Rattle.net_cells.proofs.visit.visits.Given as goal

abbrev pub invariant-loop-number : goal.invariant-loop-number
invariant-loop-number l = l.found.items ≡ flat_map (λ i. hops_at i (path l.net i) l.server) (range_with_len 0 l.number)
