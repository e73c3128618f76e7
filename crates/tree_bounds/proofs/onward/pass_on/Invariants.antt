use Rattle.tree_bounds.specs.Onward.{ArePassedOn}
use Rattle.tree_bounds.proofs.onward.pass_on.Given as goal

abbrev pub invariant-loop-n : goal.invariant-loop-n
invariant-loop-n l = ArePassedOn l.spots l.numbers l.rows l.n-index l.initial.stairs.items l.stairs.items
