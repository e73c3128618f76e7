use Rattle.std.proofs.Common.{◌≡◌, filter, take}
use Rattle.tree_bounds.specs.Coming.{is_of_queue}
use Rattle.tree_bounds.proofs.arriving.of_queue.Given as goal

abbrev pub invariant-loop-n : goal.invariant-loop-n
invariant-loop-n l = l.found.items ≡ filter (is_of_queue l.spots l.q) (take l.n-index l.numbers)
