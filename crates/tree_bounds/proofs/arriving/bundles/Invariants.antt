use Rattle.std.proofs.Common.{◌≡◌, ℕ, map, take}
use Rattle.std.specs.List.{sum_by}
use Rattle.arrival_stairs.specs.Views.{bunches}
use Rattle.tree_network.specs.Spots.{spots_of}
use Rattle.tree_bounds.specs.Bunches.{bunch_of_group}
use Rattle.tree_bounds.specs.Grouping.{AreInGroups}
use Rattle.tree_bounds.specs.Onward.{stair_in}
use Rattle.tree_bounds.proofs.arriving.bundles.Given as goal

abbrev pub invariant-loop-group : goal.invariant-loop-group
invariant-loop-group l = record {
  first : l.first ≡ sum_by (λ g. g.count) (take l.group-index l.groups);
  bundles : (s q : ℕ) → AreInGroups (spots_of l.network) s q l.groups l.numbers
      → bunches l.all.items ≡ map (bunch_of_group l.network (spots_of l.network) (λ n. stair_in l.stairs n) s q) (take l.group-index l.groups);
}
