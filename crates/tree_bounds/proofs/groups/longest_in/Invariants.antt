use Rattle.std.proofs.Common.{◌≡◌, take}
use Rattle.tree_bounds.specs.Groups.{longest_group}
use Rattle.tree_bounds.proofs.groups.longest_in.Given as goal

abbrev pub invariant-loop-group : goal.invariant-loop-group
invariant-loop-group l = l.longest ≡ longest_group (take l.group-index l.groups)
