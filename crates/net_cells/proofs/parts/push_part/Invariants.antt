use Rattle.std.proofs.Common.{◌≡◌, ◌++◌, eqb, map, take}
use Rattle.std.specs.List.{filter}
use Rattle.net_cells.specs.declared.cell.Kind.TheVariants.{In}
use Rattle.net_cells.specs.Order.{at_visit}
use Rattle.net_cells.specs.Visits.{Visit}
use Rattle.net_cells.specs.QueueParts.{part_of}
use Rattle.net_cells.proofs.parts.push_part.Given as goal

abbrev pub invariant-loop-v : goal.invariant-loop-v
invariant-loop-v l = l.cells.items ≡ l.initial.cells.items
    ++ map (at_visit In) (filter (λ (x : Visit). eqb (part_of l.net x) l.part) (take l.v-index l.here))
