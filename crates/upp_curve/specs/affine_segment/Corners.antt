-- The types that the convolution of two elements uses within: segments, and where two of them start or turn.
-- Own choice.
use Rattle.std.specs.Prelude.{◌≡◌}
use Rattle.rational.specs.Rational.{ℚ, ◌+ℚ◌}
use Rattle.upp_curve.specs.declared.affine_segment.line.Line.{Line}
use Rattle.upp_curve.specs.declared.affine_segment.convolution.Stretch.{Stretch}
use Rattle.upp_curve.specs.declared.affine_segment.convolution.Corner.{Corner}
use Rattle.upp_curve.specs.affine_segment.Values.{line_at}
use Rattle.upp_curve.specs.affine_segment.Segments.{Segment, IsThrough}

-- a stretch as a segment
abbrev pub segment_of : Stretch → Segment
segment_of s = record { from = s.from; to = s.to; line = s.line }

-- where one line is at x and the other at y: the sums of the times and of the values, and the line of slope r from
-- there
pub record IsCorner (a : Line) (x : ℚ) (b : Line) (y r : ℚ) (c : Corner) : Type 0 where
  pub at : c.at ≡ x +ℚ y
  pub v : c.v ≡ line_at a x +ℚ line_at b y
  pub line : IsThrough r c.at c.v c.line
