use Rattle.std.proofs.Common.{◌≡◌, ℕ, ◌<◌}
use Rattle.cell_numbers.specs.Chosen.{chosen}
use Rattle.cell_rules.proofs.lists.same_hops.Given as goal

abbrev pub invariant-loop-flow : goal.invariant-loop-flow
invariant-loop-flow l = (i : ℕ) → i < l.flow → chosen l.old l.place.0 l.place.1 l.except i
    ≡ chosen l.new l.other.0 l.other.1 l.except i
