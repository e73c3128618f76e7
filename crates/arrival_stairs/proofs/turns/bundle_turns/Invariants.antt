use Rattle.arrival_stairs.proofs.Course.{IsCourse}
use Rattle.arrival_stairs.proofs.turns.bundle_turns.Given as goal

abbrev pub invariant-loop-jump : goal.invariant-loop-jump
invariant-loop-jump l = IsCourse l.bundle l.jump-items l.end l.jump-index l.level l.fn.turns.items l.turns.items l.line
