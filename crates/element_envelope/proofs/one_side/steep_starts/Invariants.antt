use Rattle.std.specs.Prelude.{pos}
use Rattle.std.proofs.Common.{List, ◌++◌, drop}
use Rattle.rational.specs.Rational.{int}
use Rattle.upp_curve.specs.declared.affine_segment.line.Piece.{Piece}
use Rattle.element_envelope.specs.NearStarts.{RisesWithin, IsWithout}
use Rattle.element_envelope.proofs.one_side.steep_starts.Given as goal

-- what is kept, with what is left of the rest, is what is left of all
abbrev pub invariant-loop-p : goal.invariant-loop-p
invariant-loop-p l = (ks : List Piece) → IsWithout (RisesWithin (int (pos 0))) (drop l.p-index l.pieces) ks → IsWithout (RisesWithin (int (pos 0))) l.pieces (l.kept.items ++ ks)
