-- The values of a piece that count, and which steps have to fit so that they are known. Own choice.
use Rattle.std.specs.Prelude.{ℕ, ◌-◌, ◌≤◌, ◌<◌, ◌^◌, pos, Option, Some, None}
use Rattle.rational.specs.Rational.{ℚ, ◌*ℚ◌, ◌≤ℚ◌, ◌<ℚ◌, int}
use Rattle.rational.specs.Ratio.{IsSmall, SumFits}
use Rattle.rational.specs.Extended.{Ext, ◌+ₑ◌}
use Rattle.rational.specs.declared.Extended.TheVariants.{Fin, Inf}
use Rattle.upp_curve.specs.declared.affine_segment.line.Line.{Line}
use Rattle.upp_curve.specs.declared.affine_segment.line.Piece.{Piece}
use Rattle.upp_curve.specs.affine_segment.Values.{line_value}
use Rattle.upp_curve.specs.declared.curve.Tail.{Tail}
use Rattle.upp_curve.specs.declared.curve.Tail.TheVariants.{Periodic, Affine, Infinite}
use Rattle.upp_limits.specs.declared.seen.Seen.{Seen}
use Rattle.upp_curve.specs.affine_segment.Fits.{LineFitsAt}
use Rattle.upp_curve.specs.Unrolled.{copies_below}
use Rattle.upp_limits.specs.Spans.{Span}
use Rattle.upp_limits.specs.Limits.{limit_before}

-- the values of a span
abbrev pub seen_of : Span → Seen
seen_of s = record {
  at = s.piece.at;
  after = line_value s.piece.line s.piece.x;
  before = limit_before s.piece.line s.next;
}

-- the same, risen by c
abbrev pub seen_risen : Seen → ℚ → Seen
seen_risen s c = record { at = s.at +ₑ Fin c; after = s.after +ₑ Fin c; before = s.before +ₑ Fin c }

-- ---- the steps that have to fit
abbrev pub NextFits : Option Line → Option ℚ → Type 0
NextFits l None = Unit {0}
NextFits l (Some e) = LineFitsAt e l

-- the line is readable at the start and at the next start
pub record SpanFits (s : Span) : Type 0 where
  pub start : LineFitsAt s.piece.x s.piece.line
  pub end : NextFits s.piece.line s.next

pub record RiseFits (v n rise : ℚ) : Type 0 where
  pub product : IsSmall (n *ℚ rise)
  pub sum : SumFits v (n *ℚ rise)

-- a value can be risen n times
abbrev pub ValueRises : Ext → ℚ → ℚ → Type 0
ValueRises Inf n rise = Unit {0}
ValueRises (Fin v) n rise = RiseFits v n rise

pub record SeenRises (s : Seen) (n rise : ℚ) : Type 0 where
  pub first : ValueRises s.at n rise
  pub second : ValueRises s.after n rise
  pub third : ValueRises s.before n rise

-- of so many copies of a span the values of the first and of the last are known
pub record CopiesFit (s : Span) (copies : ℕ) (rise : ℚ) : Type 0 where
  pub few : copies < 2 ^ 127
  pub first : 1 ≤ copies → SpanFits s
  pub last : 2 ≤ copies → SeenRises (seen_of s) (int (pos (copies - 1))) rise

-- the numbers of a span below `end` are known
abbrev pub Knows : Tail → ℚ → Span → Type 0
Knows (Periodic rank period rise) end s =
    (s.piece.x <ℚ rank → s.piece.x <ℚ end → SpanFits s)
    × (rank ≤ℚ s.piece.x → CopiesFit s (copies_below period end s.piece) rise)
Knows (Affine rank) end s = s.piece.x <ℚ end → SpanFits s
Knows (Infinite rank) end s = s.piece.x <ℚ end → SpanFits s

-- a line that starts at the rank is readable there
abbrev pub RankLineFits : Piece → ℚ → Type 0
RankLineFits p rank = rank ≤ℚ p.x → LineFitsAt rank p.line
