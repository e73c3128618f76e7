use Rattle.cell_numbers.specs.Chosen.{IsFreeBefore}
use Rattle.cell_numbers.proofs.found.place_on.Given as goal

abbrev pub invariant-loop-place : goal.invariant-loop-place
invariant-loop-place l = IsFreeBefore l.path l.server l.place
