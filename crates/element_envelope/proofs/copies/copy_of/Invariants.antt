use Rattle.std.proofs.Common.{◌≡◌, ◌++◌, drop}
use Rattle.upp_curve.specs.Unrolled.{each_later, upto}
use Rattle.element_envelope.proofs.copies.copy_of.Given as goal

abbrev pub invariant-loop-p : goal.invariant-loop-p
invariant-loop-p l =
    l.copy.items ++ upto l.fn.end (each_later l.x l.v (drop l.p-index l.pieces)) ≡ l.initial.copy.items ++ upto l.fn.end (each_later l.x l.v l.pieces)
