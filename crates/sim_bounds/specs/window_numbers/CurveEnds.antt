-- The pieces of a curve that start at the end of its window, without unrolling it. (Own choice.)
use Rattle.std.specs.Prelude.{◌≡◌, ◌<◌, ◌^◌, pos, cond, List, [], ◌∷◌}
use Rattle.std.specs.List.{flat_map}
use Rattle.rational.specs.Rational.{ℚ, ◌+ℚ◌, ◌*ℚ◌, ◌≤ℚ◌, ◌<ℚ◌, int, lt_q}
use Rattle.upp_curve.specs.declared.curve.Tail.{Tail}
use Rattle.upp_curve.specs.declared.curve.Tail.TheVariants.{Periodic, Affine, Infinite}
use Rattle.upp_curve.specs.Unrolled.{copies_below}
use Rattle.upp_limits.specs.Spans.{Span, copy_of}
use Rattle.upp_limits.specs.Limits.{Numbers, no_numbers, joined, span_values, span_slopes}
use Rattle.upp_limits.specs.Seen.{SpanFits, SeenRises, seen_of}
use Rattle.sim_bounds.specs.Gauge.{starts_at}

-- ---- what of a span starts at `end`
abbrev pub itself_at : ℚ → Span → List Span
itself_at end s = cond (starts_at end s) (s ∷ []) []

-- the copies before `end` are those with numbers below `copies_below`, so the next one alone may start at it
abbrev pub next_copy : ℚ → ℚ → Span → ℚ
next_copy period end s = s.piece.x +ℚ int (pos (copies_below period end s.piece)) *ℚ period

abbrev pub copy_at : ℚ → ℚ → ℚ → Span → List Span
copy_at period rise end s =
    cond (lt_q end (next_copy period end s)) [] (copy_of period rise s (copies_below period end s.piece) ∷ [])

abbrev pub at_end : Tail → ℚ → Span → List Span
at_end (Periodic rank period rise) end s = cond (lt_q s.piece.x rank) (itself_at end s) (copy_at period rise end s)
at_end (Affine rank) end s = itself_at end s
at_end (Infinite rank) end s = itself_at end s

-- ---- the numbers: the start of the piece, and the values and slopes of what starts at `end`
abbrev pub numbers_with : ℚ → List Span → Numbers
numbers_with x ss = record { times = x ∷ []; values = flat_map span_values ss; slopes = flat_map span_slopes ss }

abbrev pub end_numbers : Tail → ℚ → Span → Numbers
end_numbers tail end s = numbers_with s.piece.x (at_end tail end s)

unfoldable pub all_end_numbers : Tail → ℚ → List Span → Numbers
all_end_numbers tail end [] = no_numbers
all_end_numbers tail end (s ∷ ss) = joined (end_numbers tail end s) (all_end_numbers tail end ss)

-- ---- which steps have to fit
pub record CopyFits (period rise end : ℚ) (s : Span) : Type 0 where
  pub few : copies_below period end s.piece < 2 ^ 127
  pub span : next_copy period end s ≤ℚ end → SpanFits s
  pub rises : next_copy period end s ≤ℚ end → SeenRises (seen_of s) (int (pos (copies_below period end s.piece))) rise

abbrev pub KnowsEnd : Tail → ℚ → Span → Type 0
KnowsEnd (Periodic rank period rise) end s =
    (s.piece.x <ℚ rank → s.piece.x ≡ end → SpanFits s) × (rank ≤ℚ s.piece.x → CopyFits period rise end s)
KnowsEnd (Affine rank) end s = s.piece.x ≡ end → SpanFits s
KnowsEnd (Infinite rank) end s = s.piece.x ≡ end → SpanFits s
