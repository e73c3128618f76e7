use Rattle.tree_bounds.specs.Onward.{BeginStairs}
use Rattle.tree_bounds.specs.Solved.{AreAllStairs}
use Rattle.tree_bounds.proofs.onward.first_stairs.Given as goal

abbrev pub invariant-loop-spot : goal.invariant-loop-spot
invariant-loop-spot l = record {
  begin : BeginStairs l.network l.spots l.spot-index l.stairs.items;
  range : AreAllStairs l.stairs.items;
}
