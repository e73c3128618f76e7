-- Which step of the convolution of two elements was too wide. Own choice.
use Rattle.std.specs.Prelude.{◌≡◌, ◌⊎◌}
use Rattle.rational.specs.Rational.{ℚ, ◌+ℚ◌, ◌*ℚ◌, ◌<ℚ◌}
use Rattle.rational.specs.Extended.{Ext}
use Rattle.rational.specs.declared.Extended.TheVariants.{Fin, Inf}
use Rattle.fraction128.specs.declared.fault.Wide.{Wide}
use Rattle.upp_curve.specs.declared.affine_segment.line.Line.{Line}
use Rattle.upp_curve.specs.declared.affine_segment.element.Element.{Element}
use Rattle.upp_curve.specs.declared.affine_segment.element.Element.TheVariants.{Point, Open}
use Rattle.upp_curve.specs.affine_segment.Values.{line_at}
use Rattle.upp_curve.specs.affine_segment.Segments.{Segment}
use Rattle.upp_curve.specs.affine_segment.Steps.{IsWideSum, IsWideDifference, IsWideProduct, IsWideValue}

-- ---- parts
-- a line of slope r that has the value v at x: the product of slope and time, and the difference of the value and that
abbrev pub IsWideThrough : ℚ → ℚ → ℚ → Wide → Type 0
IsWideThrough r x v w = IsWideProduct r x w ⊎ IsWideDifference v (r *ℚ x) w

-- an end moved by x: the sum, where there is an end
abbrev pub IsWideEnd : ℚ → Ext → Wide → Type 0
IsWideEnd x Inf w = ⊥
IsWideEnd x (Fin e) w = IsWideSum x e w

-- the sum of two ends, where both are
abbrev pub IsWideEnds : Ext → Ext → Wide → Type 0
IsWideEnds Inf e w = ⊥
IsWideEnds (Fin x) e w = IsWideEnd x e w

-- a line of slope r from where one line is at x and the other at y: the sum of the times, the steps of both values,
-- their sum, and the steps of the line
abbrev pub IsWideCorner : Line → ℚ → Line → ℚ → ℚ → Wide → Type 0
IsWideCorner a x b y r w =
    IsWideSum x y w ⊎ IsWideValue a x w ⊎ IsWideValue b y w ⊎ IsWideSum (line_at a x) (line_at b y) w
    ⊎ IsWideThrough r (x +ℚ y) (line_at a x +ℚ line_at b y) w

-- ---- two elements
-- a segment moved by the point (x, v): the sums of the times, the steps of the value at its start, the sum of that with
-- v, and the steps of the line
abbrev pub IsWideMoved : ℚ → ℚ → ℚ → Ext → Line → Wide → Type 0
IsWideMoved x v from to line w =
    IsWideSum x from w ⊎ IsWideEnd x to w ⊎ IsWideValue line from w ⊎ IsWideSum v (line_at line from) w
    ⊎ IsWideThrough line.slope (x +ℚ from) (v +ℚ line_at line from) w

-- two segments of one slope: the line from their starts, and the sum of their ends
abbrev pub IsWideStraight : Segment → Segment → Wide → Type 0
IsWideStraight a b w = IsWideCorner a.line a.from b.line b.from a.line.slope w ⊎ IsWideEnds a.to b.to w

-- the second part of two segments: the line from the end of the one, and the sum of the ends
abbrev pub IsWideSecond : Segment → Ext → Segment → Wide → Type 0
IsWideSecond low Inf high w = ⊥
IsWideSecond low (Fin e) high w = IsWideCorner low.line e high.line high.from high.line.slope w ⊎ IsWideEnd e high.to w

-- two segments, the one of smaller slope first: the line from their starts, and the second part
abbrev pub IsWideBent : Segment → Segment → Wide → Type 0
IsWideBent low high w =
    IsWideCorner low.line low.from high.line high.from low.line.slope w ⊎ IsWideSecond low low.to high w

-- two segments in either order of their slopes
abbrev pub IsWideSegments : Segment → Segment → Wide → Type 0
IsWideSegments a b w =
    (a.line.slope <ℚ b.line.slope) × IsWideBent a b w ⊎ (b.line.slope <ℚ a.line.slope) × IsWideBent b a w
    ⊎ (a.line.slope ≡ b.line.slope) × IsWideStraight a b w

-- two points: the sums of the times and of the values. The others as above
abbrev pub IsWideConvolution : Element → Element → Wide → Type 0
IsWideConvolution (Point x v) (Point y u) w = IsWideSum x y w ⊎ IsWideSum v u w
IsWideConvolution (Point x v) (Open from to line) w = IsWideMoved x v from to line w
IsWideConvolution (Open from to line) (Point x v) w = IsWideMoved x v from to line w
IsWideConvolution (Open from to line) (Open f t l) w =
    IsWideSegments record { from = from; to = to; line = line } record { from = f; to = t; line = l } w
