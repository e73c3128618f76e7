-- The segments of a curve: one for each of its pieces that start before a time, its periods written out.
use Rattle.std.specs.Prelude.{◌↔◌, List, [], ◌∷◌, Option, Some, None, pos}
use Rattle.rational.specs.Rational.{ℚ, int, ◌-ℚ◌, ◌≤ℚ◌, ◌<ℚ◌}
use Rattle.rational.specs.Extended.{Ext, ◌<ₑ◌, ◌+ₑ◌}
use Rattle.rational.specs.declared.Extended.TheVariants.{Fin, Inf}
use Rattle.upp_curve.specs.declared.affine_segment.line.Line.{Line}
use Rattle.upp_curve.specs.declared.affine_segment.line.Piece.{Piece}
use Rattle.upp_curve.specs.Curve.{SpecCurve, value_at}
use Rattle.upp_curve.specs.Unrolled.{unroll}
use Rattle.flow_watch.specs.declared.watch_laws.point.Point.{Point}
use Rattle.flow_watch.specs.declared.watch_laws.point.Segment.{Segment}
use Rattle.flow_watch.specs.watch_laws.Laws.{MayServe}
use Rattle.flow_watch.specs.watch_laws.Shorts.{HasSegment, IsShortBy}

-- the number that a finite value is; the slope of a line
abbrev pub number_at : Ext → ℚ
number_at (Fin v) = v
number_at Inf = int (pos 0)

abbrev pub slope_of : Option Line → ℚ
slope_of None = int (pos 0)
slope_of (Some l) = l.slope

-- where the next piece starts
abbrev pub next_start : List Piece → Option ℚ
next_start [] = None
next_start (p ∷ ps) = Some p.x

-- a piece as a segment that ends there
abbrev pub segment_of : Piece → Option ℚ → Segment
segment_of p end = record { start = p.x; end = end; value = number_at p.at; slope = slope_of p.line }

abbrev pub segments : List Piece → List Segment
segments [] = []
segments (p ∷ ps) = segment_of p (next_start ps) ∷ segments ps

-- a window no longer than `far` is short by one of them exactly where the work in it is less than the curve
abbrev pub SegmentsTell : Type 0
SegmentsTell = (c : SpecCurve) (far : ℚ) (a b : Point) → MayServe c → int (pos 0) <ℚ far → a.time ≤ℚ b.time
    → b.time -ℚ a.time ≤ℚ far →
    ((s : Segment) × HasSegment s (segments (unroll c far)) × IsShortBy s a b)
    ↔ (Fin b.work <ₑ (Fin a.work +ₑ value_at c (b.time -ℚ a.time)))
