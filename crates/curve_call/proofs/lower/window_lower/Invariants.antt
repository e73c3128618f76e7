use Rattle.std.proofs.Common.{length, ◌-◌, ◌+◌}
use Rattle.curve_call.proofs.LowerLoop.{LowerLoop}
use Rattle.curve_call.proofs.lower.window_lower.Given as goal

abbrev pub invariant-loop-walk : goal.invariant-loop-walk
invariant-loop-walk l = LowerLoop l.f l.g l.walk l.kept.items

abbrev pub decreases-loop-walk : goal.decreases-loop-walk
decreases-loop-walk l = (length l.f - l.walk.i) + (length l.g - l.walk.j)
