use Rattle.std.proofs.Common.{List, ◌++◌, drop}
use Rattle.upp_curve.specs.declared.affine_segment.line.Piece.{Piece}
use Rattle.element_envelope.specs.NearStarts.{IsNear}
use Rattle.element_envelope.proofs.near.near_starts.Given as goal

-- what is kept, with what is near of the rest, is what is near of all
abbrev pub invariant-loop-q : goal.invariant-loop-q
invariant-loop-q l = (ks : List Piece) → IsNear l.pace.slope l.pace.more l.first (drop l.q-index l.starts) ks → IsNear l.pace.slope l.pace.more l.first l.starts (l.kept.items ++ ks)
