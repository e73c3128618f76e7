-- The numbers of a curve without unrolling: of each piece the first copy and the values of the last one that starts
-- below `end`. With the rise they have the sizes of all copies. Own choice.
use Rattle.std.specs.Prelude.{ℕ, zero, suc, pos, cond, List, [], ◌∷◌, ◌++◌}
use Rattle.rational.specs.Rational.{ℚ, ◌*ℚ◌, int, lt_q}
use Rattle.upp_curve.specs.declared.affine_segment.line.Piece.{Piece}
use Rattle.upp_limits.specs.declared.seen.Seen.{Seen}
use Rattle.upp_curve.specs.declared.curve.Tail.{Tail}
use Rattle.upp_curve.specs.declared.curve.Tail.TheVariants.{Periodic, Affine, Infinite}
use Rattle.upp_curve.specs.Curve.{SpecCurve}
use Rattle.upp_curve.specs.Unrolled.{copies_below}
use Rattle.upp_limits.specs.Spans.{Span, spans}
use Rattle.upp_limits.specs.Limits.{Numbers, no_numbers, joined, values_alone, finite, line_slope}
use Rattle.upp_limits.specs.Seen.{seen_of, seen_risen}

abbrev pub seen_values : Seen → List ℚ
seen_values s = finite s.at ++ finite s.after ++ finite s.before

-- a start, the values of its piece and the slope after it
abbrev pub piece_numbers : Piece → Seen → Numbers
piece_numbers p s = record { times = p.x ∷ []; values = seen_values s; slopes = line_slope p.line }

abbrev pub span_numbers : Span → Numbers
span_numbers s = piece_numbers s.piece (seen_of s)

-- the values of a copy that is c higher
abbrev pub last_numbers : ℚ → Span → Numbers
last_numbers c s = values_alone (seen_values (seen_risen (seen_of s) c))

-- the numbers of the first of so many copies, and of the last where there are two or more
abbrev pub copies_numbers : ℚ → Span → ℕ → Numbers
copies_numbers rise s zero = no_numbers
copies_numbers rise s (suc zero) = span_numbers s
copies_numbers rise s (suc (suc n)) = joined (span_numbers s) (last_numbers (int (pos (suc n)) *ℚ rise) s)

abbrev pub once_numbers : ℚ → Span → Numbers
once_numbers end s = cond (lt_q s.piece.x end) (span_numbers s) no_numbers

abbrev pub closed_span : Tail → ℚ → Span → Numbers
closed_span (Periodic rank period rise) end s =
    cond (lt_q s.piece.x rank) (once_numbers end s) (copies_numbers rise s (copies_below period end s.piece))
closed_span (Affine rank) end s = once_numbers end s
closed_span (Infinite rank) end s = once_numbers end s

unfoldable pub closed_spans : Tail → ℚ → List Span → Numbers
closed_spans tail end [] = no_numbers
closed_spans tail end (s ∷ ss) = joined (closed_span tail end s) (closed_spans tail end ss)

abbrev pub tail_numbers : Tail → Numbers
tail_numbers (Periodic rank period rise) = record { times = rank ∷ period ∷ []; values = rise ∷ []; slopes = [] }
tail_numbers (Affine rank) = record { times = rank ∷ []; values = []; slopes = [] }
tail_numbers (Infinite rank) = record { times = rank ∷ []; values = []; slopes = [] }

abbrev pub closed_numbers : ℚ → SpecCurve → Numbers
closed_numbers end c = joined (tail_numbers c.tail) (closed_spans c.tail end (spans c.tail c.pieces))

-- the same of the first copies alone
abbrev pub first_numbers : ℚ → SpecCurve → Numbers
first_numbers end c = joined (tail_numbers c.tail) (closed_spans (Affine (int (pos 0))) end (spans c.tail c.pieces))
