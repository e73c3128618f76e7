-- Segments: lines strictly between two times, and the line of a slope that has a value at a time. Own choice.
use Rattle.std.specs.Prelude.{◌≡◌}
use Rattle.rational.specs.Rational.{ℚ}
use Rattle.rational.specs.Extended.{Ext, ◌<ₑ◌}
use Rattle.rational.specs.declared.Extended.TheVariants.{Fin}
use Rattle.upp_curve.specs.declared.affine_segment.line.Line.{Line}
use Rattle.upp_curve.specs.declared.affine_segment.element.Element.{Element}
use Rattle.upp_curve.specs.declared.affine_segment.element.Element.TheVariants.{Open}
use Rattle.upp_curve.specs.affine_segment.Values.{line_at}

-- a line strictly between two times
pub record Segment : Type 0 where
  pub from : ℚ
  pub to : Ext
  pub line : Line

-- the element that it is
abbrev pub open_of : Segment → Element
open_of s = Open s.from s.to s.line

-- it starts before its end
abbrev pub IsProperSegment : Segment → Type 0
IsProperSegment s = Fin s.from <ₑ s.to

-- the line of the slope r that has the value v at x
pub record IsThrough (r x v : ℚ) (line : Line) : Type 0 where
  pub slope : line.slope ≡ r
  pub value : line_at line x ≡ v
