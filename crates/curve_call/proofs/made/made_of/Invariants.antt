use Rattle.std.proofs.Common.{length, ◌-◌, ◌+◌}
use Rattle.curve_call.proofs.MadeLoop.{MadeLoop}
use Rattle.curve_call.proofs.made.made_of.Given as goal

abbrev pub invariant-loop-walk : goal.invariant-loop-walk
invariant-loop-walk l = MadeLoop l.made l.f l.g l.walk l.pieces.items

abbrev pub decreases-loop-walk : goal.decreases-loop-walk
decreases-loop-walk l = (length l.f - l.walk.i) + (length l.g - l.walk.j)
