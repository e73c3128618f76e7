-- The unrolled pieces of a curve are as many as are counted, and are those of its spans. Own choice.
use Rattle.std.specs.Prelude.{◌≡◌, ◌⊎◌, List, length, map, Contains, Option, Some, None}
use Rattle.rational.specs.Rational.{ℚ, ◌≤ℚ◌, ◌<ℚ◌}
use Rattle.upp_curve.specs.declared.affine_segment.line.Piece.{Piece}
use Rattle.upp_curve.specs.Curve.{SpecCurve}
use Rattle.upp_curve.specs.Normal.{IsRaw, IsNormal}
use Rattle.upp_limits.specs.Spans.{Span, spans_below}
use Rattle.upp_curve.specs.Unrolled.{count, unroll}

-- the lists are as long, and each piece of one is in the other
pub record HaveSamePieces (ps qs : List Piece) : Type 0 where
  pub number : length ps ≡ length qs
  pub there : (p : Piece) → Contains ps p → Contains qs p
  pub back : (p : Piece) → Contains qs p → Contains ps p

-- what counts in a tally is the length of the unrolled list
abbrev pub PiecesAreCounted : Type 0
PiecesAreCounted = (c : SpecCurve) (end : ℚ) → IsRaw c → count c end ≡ length (unroll c end)

-- of the pieces of a curve, unrolled as far as one likes, the first that starts after x starts at e
pub record IsNextStart (c : SpecCurve) (x e : ℚ) : Type 0 where
  pub later : x <ℚ e
  pub there : (far : ℚ) → e <ℚ far → (p : Piece) × (Contains (unroll c far) p × (p.x ≡ e))
  pub first : (far : ℚ) (p : Piece) → Contains (unroll c far) p → x <ℚ p.x → e ≤ℚ p.x

-- none of them starts after x
abbrev pub IsLastStart : SpecCurve → ℚ → Type 0
IsLastStart c x = (far : ℚ) (p : Piece) → Contains (unroll c far) p → p.x ≤ℚ x

-- where the next piece starts after one that starts at x: nowhere after a last piece that goes on for ever; a last one
-- at the rank of an infinite tail ends where it starts
abbrev pub IsNext : SpecCurve → ℚ → Option ℚ → Type 0
IsNext c x None = IsLastStart c x
IsNext c x (Some e) = IsNextStart c x e ⊎ ((e ≡ x) × IsLastStart c x)

-- below a time the spans have the unrolled pieces, each with the start of the next one
pub record AreSpans (c : SpecCurve) (end : ℚ) : Type 0 where
  pub pieces : HaveSamePieces (unroll c end) (map (λ s. s.piece) (spans_below c end))
  pub nexts : (s : Span) → Contains (spans_below c end) s → IsNext c s.piece.x s.next

-- the pieces whose numbers count in a gauge are the unrolled pieces, each with the start of the next one
abbrev pub SpansAreUnrolled : Type 0
SpansAreUnrolled = (c : SpecCurve) (end : ℚ) → IsNormal c → AreSpans c end
