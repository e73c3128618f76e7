use Rattle.std.proofs.Common.{take}
use Rattle.std.specs.Prelude.{All}
use Rattle.rational.specs.Rational.{◌+ℚ◌, ◌≤ℚ◌}
use Rattle.upp_curve.specs.affine_segment.Elements.{start_of}
use Rattle.element_envelope.proofs.least.is_late_beside.Given as goal

abbrev pub invariant-loop-y : goal.invariant-loop-y
invariant-loop-y l = All (λ y. l.end ≤ℚ start_of l.x +ℚ start_of y) (take l.y-index l.ys)
