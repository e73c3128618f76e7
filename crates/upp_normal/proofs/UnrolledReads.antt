-- The pieces of a curve below a time read as the curve there.
use Rattle.std.specs.Prelude.{◌≡◌, pos, List}
use Rattle.std.proofs.Common.{ap, ◌∙◌}
use Rattle.rational.specs.Rational.{ℚ, ◌≤ℚ◌, ◌<ℚ◌, int}
use Rattle.upp_curve.specs.declared.affine_segment.line.Piece.{Piece}
use Rattle.upp_curve.specs.Curve.{SpecCurve, value_at}
use Rattle.upp_curve.specs.Normal.{IsNormal}
use Rattle.upp_curve.specs.affine_segment.Reading.{read}
use Rattle.upp_curve.specs.Unrolled.{unroll}
use Rattle.upp_normal.proofs.Below.{unroll_reads}

pub reads_below : (c : SpecCurve) (h : ℚ) (ps : List Piece) → IsNormal c → ps ≡ unroll c h → (t : ℚ) → int (pos 0) ≤ℚ t → t <ℚ h → read ps t ≡ value_at c t
reads_below c h ps n e t low up = ap (λ xs. read xs t) e ∙ unroll_reads c h t n low up
