use Rattle.std.proofs.Common.{◌≡◌, ℕ, eqb, map}
use Rattle.std.specs.List.{filter, flat_map, range_with_len}
use Rattle.net_cells.specs.declared.cell.Kind.TheVariants.{In}
use Rattle.net_cells.specs.Order.{at_visit}
use Rattle.net_cells.specs.Visits.{Visit}
use Rattle.net_cells.specs.QueueParts.{part_of}
use Rattle.net_cells.proofs.parts.by_parts.Given as goal

abbrev pub invariant-loop-part : goal.invariant-loop-part
invariant-loop-part l = l.cells.items ≡ map (at_visit In)
    (flat_map (λ (k : ℕ). filter (λ (x : Visit). eqb (part_of l.net x) k) l.here) (range_with_len 0 l.part))
