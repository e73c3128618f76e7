use Rattle.std.proofs.Common.{◌≡◌, ◌++◌, drop}
use Rattle.upp_curve.specs.Unrolled.{each_later, upto}
use Rattle.upp_normal.proofs.unrolling.push_copies.Given as goal

abbrev pub invariant-loop-p : goal.invariant-loop-p
invariant-loop-p l =
    l.kept.items ++ upto l.fn.end (each_later l.by l.height (drop l.p-index l.turn)) ≡ l.initial.kept.items ++ upto l.fn.end (each_later l.by l.height l.turn)
