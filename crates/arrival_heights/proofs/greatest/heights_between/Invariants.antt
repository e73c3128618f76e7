use Rattle.arrival_heights.proofs.Added.{BendsAdded}
use Rattle.arrival_heights.proofs.greatest.heights_between.Given as goal

abbrev pub invariant-loop-part : goal.invariant-loop-part
invariant-loop-part l = BendsAdded l.parts l.begin l.end l.part-index l.fn.heights.items l.heights.items
