use Rattle.arrival_stairs.proofs.Joint.{AreTurnsOfFirst}
use Rattle.arrival_stairs.proofs.turns.turns_until.Given as goal

abbrev pub invariant-loop-bundle : goal.invariant-loop-bundle
invariant-loop-bundle l = AreTurnsOfFirst l.bundles l.bundle-index l.end l.turns.items
