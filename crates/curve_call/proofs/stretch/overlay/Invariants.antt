use Rattle.std.proofs.Common.{length, ◌-◌, ◌+◌}
use Rattle.curve_call.proofs.OverlayLoop.{OverlayLoop}
use Rattle.curve_call.proofs.stretch.overlay.Given as goal

abbrev pub invariant-loop-walk : goal.invariant-loop-walk
invariant-loop-walk l = OverlayLoop l.f l.g l.stretches.items l.walk

abbrev pub decreases-loop-walk : goal.decreases-loop-walk
decreases-loop-walk l = (length l.f - l.walk.i) + (length l.g - l.walk.j)
