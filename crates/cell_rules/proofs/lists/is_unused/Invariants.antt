use Rattle.std.proofs.Common.{◌≡◌, []}
use Rattle.std.specs.Prelude.{None}
use Rattle.cell_numbers.specs.Chosen.{all_chosen}
use Rattle.cell_rules.proofs.lists.is_unused.Given as goal

abbrev pub invariant-loop-flow : goal.invariant-loop-flow
invariant-loop-flow l = all_chosen l.net l.server l.pick None l.flow ≡ []
