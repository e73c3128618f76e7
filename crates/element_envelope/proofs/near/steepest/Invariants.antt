use Rattle.std.proofs.Common.{drop}
use Rattle.rational.specs.Rational.{ℚ, ◌≤ℚ◌}
use Rattle.upp_curve.specs.affine_segment.Pieces.{Each}
use Rattle.element_envelope.specs.NearStarts.{RisesWithin}
use Rattle.element_envelope.proofs.near.steepest.Given as goal

-- the rest being within a slope that is at least the steepest so far, all are
abbrev pub invariant-loop-p : goal.invariant-loop-p
invariant-loop-p l = (r : ℚ) → l.most ≤ℚ r → Each (RisesWithin r) (drop l.p-index l.pieces) → Each (RisesWithin r) l.pieces
