use Rattle.std.proofs.Common.{◌≡◌}
use Rattle.net_cells.specs.Visits.{longest_of}
use Rattle.cell_numbers.specs.Chosen.{all_picked}
use Rattle.cell_numbers.proofs.found.longest_at.Given as goal

abbrev pub invariant-loop-flow : goal.invariant-loop-flow
invariant-loop-flow l = l.most ≡ longest_of l.net (all_picked l.net l.server l.pick l.flow)
