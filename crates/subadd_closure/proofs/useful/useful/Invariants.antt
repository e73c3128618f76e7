use Rattle.std.proofs.Common.{take}
use Rattle.upp_curve.specs.affine_segment.Reading.{read}
use Rattle.subadd_closure.specs.Useful.{AreUseful}
use Rattle.subadd_closure.proofs.useful.useful.Given as goal

abbrev pub invariant-loop-x : goal.invariant-loop-x
invariant-loop-x l = AreUseful (read l.pieces) l.end (take l.x-index l.xs) l.ys l.kept.items
