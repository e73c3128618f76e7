use Rattle.subadd_closure.specs.Thinned.{StartFrom}
use Rattle.subadd_closure.proofs.covered.few_from.Given as goal

abbrev pub invariant-loop-turn : goal.invariant-loop-turn
invariant-loop-turn l = StartFrom l.least l.elements l.few.items
