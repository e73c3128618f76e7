use Rattle.std.proofs.Common.{take}
use Rattle.run_watch.specs.NearWindows.{IsLeast, IsNearEndOf}
use Rattle.run_watch.proofs.near.near_end_of.Given as goal

abbrev pub invariant-loop-p : goal.invariant-loop-p
invariant-loop-p l = IsLeast (IsNearEndOf l.segments l.works l.s (take l.p-index l.points)) l.least
