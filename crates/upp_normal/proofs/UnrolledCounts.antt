-- The unrolled pieces are as many as the tally counts, and as the spans below the same time.
use Rattle.std.specs.Prelude.{◌≡◌, List, length}
use Rattle.std.proofs.Common.{sym, ap, ◌∙◌}
use Rattle.rational.specs.Rational.{ℚ}
use Rattle.upp_curve.specs.declared.affine_segment.line.Piece.{Piece}
use Rattle.upp_limits.specs.declared.op_kind.OpKind.TheVariants.{Itself}
use Rattle.upp_curve.specs.Curve.{SpecCurve}
use Rattle.upp_limits.specs.Gauges.{tally_over}
use Rattle.upp_curve.specs.Normal.{IsNormal}
use Rattle.upp_curve.specs.Unrolled.{unroll}
use Rattle.upp_limits.proofs.PieceCounts.{count_is_length}

-- the tally of a curve by itself is the number of its unrolled pieces
pub number_of : (c : SpecCurve) (end : ℚ) (ps : List Piece) → IsNormal c → ps ≡ unroll c end → length ps ≡ tally_over Itself c c end
unfolding tally_over
number_of c end ps n e = ap length e ∙ sym (count_is_length c end n.raw)
