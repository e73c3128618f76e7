use Rattle.std.proofs.Common.{◌≡◌, ℕ, ◌+◌, ◌<◌, get_or}
use Rattle.upp_curve.specs.declared.affine_segment.line.Piece.{Piece}
use Rattle.upp_curve.specs.Unrolled.{later}
use Rattle.upp_normal.proofs.least_period.goes_on.Given as goal

abbrev pub invariant-loop-i : goal.invariant-loop-i
invariant-loop-i l = (j : ℕ) (z : Piece) → l.k + j < l.i → get_or l.pieces (l.k + j) z ≡ later l.by l.rise (get_or l.pieces j z)
