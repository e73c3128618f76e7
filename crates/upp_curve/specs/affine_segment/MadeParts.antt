-- What two elements make, part by part: where each part starts and ends, its slope, and its value at its start.
-- Own choice.
use Rattle.std.specs.Prelude.{◌≡◌, ◌⊎◌, Some, None}
use Rattle.rational.specs.Rational.{ℚ, ◌+ℚ◌, ◌<ℚ◌}
use Rattle.rational.specs.Extended.{Ext, ◌+ₑ◌}
use Rattle.rational.specs.declared.Extended.TheVariants.{Fin, Inf}
use Rattle.upp_curve.specs.declared.affine_segment.line.Line.{Line}
use Rattle.upp_curve.specs.declared.affine_segment.element.Element.{Element}
use Rattle.upp_curve.specs.declared.affine_segment.element.Element.TheVariants.{Point, Open}
use Rattle.upp_curve.specs.declared.affine_segment.element.Joined.{Joined}
use Rattle.upp_curve.specs.affine_segment.Values.{line_at}
use Rattle.upp_curve.specs.affine_segment.Segments.{Segment, IsThrough}

-- one part
abbrev pub alone_part : Element → Joined
alone_part e = record { first = e; join = None; second = None }

-- a line of slope r from where the line a is at x and the line b at y
abbrev pub IsFrom : Line → ℚ → Line → ℚ → ℚ → Line → Type 0
IsFrom a x b y r line = IsThrough r (x +ℚ y) (line_at a x +ℚ line_at b y) line

-- a segment moved by the point (x, v): both ends are x later, and the value at the start is v higher
pub record MovedPart (x v from : ℚ) (to : Ext) (line : Line) (j : Joined) : Type 0 where
  pub moved : Line
  pub through : IsThrough line.slope (x +ℚ from) (v +ℚ line_at line from) moved
  pub parts : j ≡ alone_part (Open (x +ℚ from) (Fin x +ₑ to) moved)

-- two segments, of which only the slope of the first counts: from the sum of their starts up to `until`
pub record OnePart (a b : Segment) (until : Ext) (j : Joined) : Type 0 where
  pub line : Line
  pub through : IsFrom a.line a.from b.line b.from a.line.slope line
  pub parts : j ≡ alone_part (Open (a.from +ℚ b.from) until line)

-- two segments of which the first ends at e: up to the turn as the first, there the sum of the values, and then as the
-- second
pub record TwoParts (a : Segment) (e : ℚ) (b : Segment) (j : Joined) : Type 0 where
  pub line : Line
  pub next : Line
  pub through : IsFrom a.line a.from b.line b.from a.line.slope line
  pub turned : IsFrom a.line e b.line b.from b.line.slope next
  pub parts : j ≡ record {
    first = Open (a.from +ℚ b.from) (Fin (e +ℚ b.from)) line;
    join = Some (Point (e +ℚ b.from) (line_at a.line e +ℚ line_at b.line b.from));
    second = Some (Open (e +ℚ b.from) (Fin e +ₑ b.to) next);
  }

-- the first segment of smaller slope, with its end
abbrev pub BentParts : Segment → Ext → Segment → Joined → Type 0
BentParts a Inf b j = OnePart a b Inf j
BentParts a (Fin e) b j = TwoParts a e b j

-- two segments in any order of their slopes
abbrev pub SegmentParts : Segment → Segment → Joined → Type 0
SegmentParts a b j =
    (a.line.slope <ℚ b.line.slope) × BentParts a a.to b j ⊎ (b.line.slope <ℚ a.line.slope) × BentParts b b.to a j
    ⊎ (a.line.slope ≡ b.line.slope) × OnePart a b (a.to +ₑ b.to) j

-- two elements
abbrev pub AreParts : Element → Element → Joined → Type 0
AreParts (Point x v) (Point y u) j = j ≡ alone_part (Point (x +ℚ y) (v +ℚ u))
AreParts (Point x v) (Open from to line) j = MovedPart x v from to line j
AreParts (Open from to line) (Point x v) j = MovedPart x v from to line j
AreParts (Open from to line) (Open f t l) j =
    SegmentParts record { from = from; to = to; line = line } record { from = f; to = t; line = l } j
