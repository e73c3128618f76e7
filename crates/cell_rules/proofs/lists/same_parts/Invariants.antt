use Rattle.std.proofs.Common.{◌≡◌, ℕ, ◌<◌}
use Rattle.cell_rules.specs.Rules.{one_part}
use Rattle.cell_rules.proofs.lists.same_parts.Given as goal

abbrev pub invariant-loop-part : goal.invariant-loop-part
invariant-loop-part l = (k : ℕ) → k < l.part → one_part l.old l.place.0 l.place.1 k ≡ one_part l.new l.place.0 l.place.1 k
