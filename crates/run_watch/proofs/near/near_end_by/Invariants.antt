use Rattle.std.proofs.Common.{take}
use Rattle.run_watch.specs.NearWindows.{IsLeast, IsNearEndBy}
use Rattle.run_watch.proofs.near.near_end_by.Given as goal

abbrev pub invariant-loop-g : goal.invariant-loop-g
invariant-loop-g l = IsLeast (IsNearEndBy (take l.g-index l.segments) l.works l.s l.p) l.least
