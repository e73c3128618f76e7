use Rattle.std.proofs.Common.{◌≡◌, ◌++◌, map, get_or, eqb}
use Rattle.std.specs.List.{filter, range_with_len}
use Rattle.net_cells.specs.Visits.{visit, Visit}
use Rattle.net_cells.proofs.visit.push_hops.Given as goal

abbrev pub invariant-loop-hop : goal.invariant-loop-hop
invariant-loop-hop l =
    l.found.items ≡ l.initial.found.items
    ++ filter (λ (v : Visit). eqb (get_or l.path v.hop 0) l.server) (map (visit l.flow) (range_with_len 0 l.hop))
