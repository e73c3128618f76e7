use Rattle.std.proofs.Common.{◌≡◌, take, map}
use Rattle.run_watch.specs.FirstEnds.{mark_of}
use Rattle.run_watch.proofs.shorts.marks_of.Given as goal

abbrev pub invariant-loop-p : goal.invariant-loop-p
invariant-loop-p l = l.marks.items ≡ map (mark_of l.slope) (take l.p-index l.points)
