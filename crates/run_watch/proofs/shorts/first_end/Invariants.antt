use Rattle.std.proofs.Common.{take}
use Rattle.run_watch.specs.FirstEnds.{IsFirstEnd}
use Rattle.run_watch.proofs.shorts.first_end.Given as goal

abbrev pub invariant-loop-s : goal.invariant-loop-s
invariant-loop-s l = IsFirstEnd (take l.s-index l.segments) l.segments l.points l.ends l.first
