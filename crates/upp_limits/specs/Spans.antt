-- A curve's pieces with their ends, and the copies of them that start below a time. Own choice.
use Rattle.std.specs.Prelude.{◌≡◌, ℕ, zero, suc, pos, cond, List, [], ◌∷◌, Option, Some, None}
use Rattle.std.specs.List.{flat_map}
use Rattle.rational.specs.Rational.{ℚ, ◌+ℚ◌, ◌*ℚ◌, int, lt_q}
use Rattle.upp_curve.specs.declared.affine_segment.line.Line.{Line}
use Rattle.upp_curve.specs.declared.affine_segment.line.Piece.{Piece}
use Rattle.upp_curve.specs.declared.curve.Tail.{Tail}
use Rattle.upp_curve.specs.declared.curve.Tail.TheVariants.{Periodic, Affine, Infinite}
use Rattle.upp_curve.specs.Curve.{SpecCurve}
use Rattle.upp_curve.specs.Unrolled.{later, copies_below}
use Rattle.upp_curve.specs.affine_segment.Pieces.{StartsAtZero, start_after}

-- a piece, and where the next one starts: nowhere after a last piece that goes on for ever
pub record Span : Type 0 where
  pub piece : Piece
  pub next : Option ℚ

-- where the next piece starts after the last of the list: the first copy at rank + period; nothing after an affine
-- tail; at the rank of an infinite tail its values end
abbrev pub end_of : Tail → Option ℚ
end_of (Periodic rank period rise) = Some (rank +ℚ period)
end_of (Affine rank) = None
end_of (Infinite rank) = Some rank

-- pieces that are read with a tail, one after another; `next` is where the next one starts after the last
pub record IsListed (pieces : List Piece) (tail : Tail) (next : Option ℚ) : Type 0 where
  pub starts : StartsAtZero pieces
  pub after : next ≡ end_of tail

-- a line that starts at the rank of an infinite tail is read at no time, and left out
abbrev pub line_read : Tail → Piece → Option Line
line_read (Periodic rank period rise) p = p.line
line_read (Affine rank) p = p.line
line_read (Infinite rank) p = cond (lt_q p.x rank) p.line None

abbrev pub piece_read : Tail → Piece → Piece
piece_read tail p = record { x = p.x; at = p.at; line = line_read tail p }

-- each piece with the start of the next one
unfoldable pub spans : Tail → List Piece → List Span
spans tail [] = []
spans tail (p ∷ ps) = record { piece = piece_read tail p; next = start_after ps (end_of tail) } ∷ spans tail ps

-- ---- copies
abbrev pub next_later : ℚ → Option ℚ → Option ℚ
next_later d None = None
next_later d (Some e) = Some (e +ℚ d)

-- a span, `d` later and `c` higher
abbrev pub span_later : ℚ → ℚ → Span → Span
span_later d c s = record { piece = later d c s.piece; next = next_later d s.next }

-- the copy of a span n periods later
abbrev pub copy_of : ℚ → ℚ → Span → ℕ → Span
copy_of period rise s n = span_later (int (pos n) *ℚ period) (int (pos n) *ℚ rise) s

-- the copies numbered below n, the last first
unfoldable pub copies_of : ℚ → ℚ → Span → ℕ → List Span
copies_of period rise s zero = []
copies_of period rise s (suc n) = copy_of period rise s n ∷ copies_of period rise s n

abbrev pub once_below : ℚ → Span → List Span
once_below end s = cond (lt_q s.piece.x end) (s ∷ []) []

-- what of a span starts below `end`: itself, and from the rank of a periodic tail on each of its copies
abbrev pub span_below : Tail → ℚ → Span → List Span
span_below (Periodic rank period rise) end s =
    cond (lt_q s.piece.x rank) (once_below end s) (copies_of period rise s (copies_below period end s.piece))
span_below (Affine rank) end s = once_below end s
span_below (Infinite rank) end s = once_below end s

-- the unrolled pieces of a curve that start below `end`, each with its end, piece by piece
unfoldable pub spans_below : SpecCurve → ℚ → List Span
spans_below c end = flat_map (span_below c.tail end) (spans c.tail c.pieces)

-- ---- how many start below a time
-- 1 where p starts before `end`, else 0
abbrev pub once : ℚ → Piece → ℕ
once end p = cond (lt_q p.x end) 1 0

-- how many of a piece and its copies start before `end`
abbrev pub number_below : Tail → ℚ → Piece → ℕ
number_below (Periodic rank period rise) end p = cond (lt_q p.x rank) (once end p) (copies_below period end p)
number_below (Affine rank) end p = once end p
number_below (Infinite rank) end p = once end p
