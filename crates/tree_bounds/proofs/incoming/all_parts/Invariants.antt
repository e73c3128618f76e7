use Rattle.std.proofs.Common.{◌≡◌, take, map, true}
use Rattle.std.specs.List.{list_all}
use Rattle.tree_bounds.specs.Groups.{part_of}
use Rattle.tree_bounds.proofs.incoming.all_parts.Given as goal

abbrev pub invariant-loop-group : goal.invariant-loop-group
invariant-loop-group l = record {
  are : l.parts.items ≡ map (part_of l.network) (take l.group-index l.groups);
  known : list_all (λ g. g.known) (take l.group-index l.groups) ≡ true;
}
