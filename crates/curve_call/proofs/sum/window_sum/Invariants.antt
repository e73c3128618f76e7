use Rattle.std.proofs.Common.{length, ◌-◌, ◌+◌}
use Rattle.curve_call.proofs.SumLoop.{SumLoop}
use Rattle.curve_call.proofs.sum.window_sum.Given as goal

abbrev pub invariant-loop-walk : goal.invariant-loop-walk
invariant-loop-walk l = SumLoop l.f l.g l.pieces.items l.walk

abbrev pub decreases-loop-walk : goal.decreases-loop-walk
decreases-loop-walk l = (length l.f - l.walk.i) + (length l.g - l.walk.j)
