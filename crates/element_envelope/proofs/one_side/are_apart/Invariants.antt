use Rattle.std.proofs.Common.{drop}
use Rattle.upp_curve.specs.affine_segment.Pieces.{Each}
use Rattle.element_envelope.specs.OneSide.{IsApart}
use Rattle.element_envelope.proofs.one_side.are_apart.Given as goal

abbrev pub invariant-loop-p : goal.invariant-loop-p
invariant-loop-p l = Each (λ p. IsApart l.r p.line) (drop l.p-index l.pieces) → Each (λ p. IsApart l.r p.line) l.pieces
