use Rattle.std.proofs.Common.{take}
use Rattle.upp_curve.specs.affine_segment.Reading.{read}
use Rattle.subadd_closure.specs.Useful.{IsIdle}
use Rattle.subadd_closure.proofs.useful.is_idle.Given as goal

abbrev pub invariant-loop-y : goal.invariant-loop-y
invariant-loop-y l = IsIdle (read l.pieces) l.end (take l.y-index l.ys) l.x
