use Rattle.std.proofs.Common.{◌≡◌, eqb, take}
use Rattle.std.specs.Prelude.{not}
use Rattle.std.specs.List.{filter}
use Rattle.net_cells.specs.Visits.{Visit}
use Rattle.net_cells.proofs.operand.without.Given as goal

abbrev pub invariant-loop-v : goal.invariant-loop-v
invariant-loop-v l = l.found.items ≡ filter (λ (x : Visit). not (eqb x.flow l.flow)) (take l.v-index l.here)
