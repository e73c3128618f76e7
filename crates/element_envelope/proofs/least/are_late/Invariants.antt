use Rattle.std.proofs.Common.{take}
use Rattle.std.specs.Prelude.{All}
use Rattle.rational.specs.Rational.{◌+ℚ◌, ◌≤ℚ◌}
use Rattle.upp_curve.specs.affine_segment.Elements.{start_of}
use Rattle.element_envelope.proofs.least.are_late.Given as goal

abbrev pub invariant-loop-x : goal.invariant-loop-x
invariant-loop-x l = All (λ x. All (λ y. l.end ≤ℚ start_of x +ℚ start_of y) l.ys) (take l.x-index l.xs)
