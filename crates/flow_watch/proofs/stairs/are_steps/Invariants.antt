use Rattle.std.proofs.Common.{ℕ, ◌<◌, drop}
use Rattle.flow_watch.specs.Stairs.{IsStepAt}
use Rattle.flow_watch.proofs.stairs.are_steps.Given as goal

abbrev pub invariant-loop-i : goal.invariant-loop-i
invariant-loop-i l = (k : ℕ) → k < l.i → IsStepAt l.stair.height l.stair.slack l.stair.rate l.end (drop k l.pieces)
