use Rattle.std.proofs.Common.{take}
use Rattle.upp_curve.specs.affine_segment.Reading.{read}
use Rattle.subadd_closure.specs.Thinned.{IsThinned}
use Rattle.subadd_closure.proofs.thinned.thinned.Given as goal

abbrev pub invariant-loop-e : goal.invariant-loop-e
invariant-loop-e l = IsThinned (read l.pieces) l.end (take l.e-index l.elements) l.kept.items
