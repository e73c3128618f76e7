use Rattle.tree_bounds.proofs.PartsMade.{Totals}
use Rattle.tree_bounds.proofs.incoming.are_within.Given as goal

abbrev pub invariant-loop-part : goal.invariant-loop-part
invariant-loop-part l = Totals l.parts l.part-index l.bursts l.rates
