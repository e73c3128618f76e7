-- The watch points of a stretch, the segments of a curve, and the first start of a short window to a point. Own choice.
use Rattle.std.specs.Prelude.{◌≡◌, ◌&&◌, List, [], ◌∷◌, ◌++◌, if◌then◌else◌}
use Rattle.rational.specs.Rational.{ℚ, ◌+ℚ◌, ◌-ℚ◌, le_q, neg_ℚ}
use Rattle.rational.specs.Ratio.{SumFits}
use Rattle.upp_curve.specs.declared.affine_segment.line.Piece.{Piece}
use Rattle.upp_curve.specs.affine_segment.Pieces.{Each}
use Rattle.flow_watch.specs.watch_laws.Affine.{EachTime, Among}
use Rattle.flow_watch.specs.declared.watch_laws.point.Point.{Point}
use Rattle.flow_watch.specs.declared.watch_laws.point.Segment.{Segment}
use Rattle.flow_watch.specs.watch_laws.Shorts.{HasPoint, HasSegment, IsShortBy}
use Rattle.run_watch.specs.declared.span.Ramp.{Ramp}
use Rattle.run_watch.specs.declared.watched.Stretch.{Stretch}
use Rattle.run_watch.specs.Ramps.{amount, spans_of}

-- ---- times
-- t, where it is in the stretch
abbrev pub inside : Stretch → ℚ → List ℚ
inside s t = if le_q s.start t && le_q t s.end then t ∷ [] else []

-- the starts of the pieces after p and before it, as far as they are in the stretch
abbrev pub around : Stretch → ℚ → List Piece → List ℚ
around s p [] = []
around s p (q ∷ qs) = inside s (p +ℚ q.x) ++ inside s (p -ℚ q.x) ++ around s p qs

abbrev pub watched_from : Stretch → List Piece → List ℚ → List ℚ
watched_from s qs [] = []
watched_from s qs (p ∷ ps) = around s p qs ++ watched_from s qs ps

-- the same times, in whatever order and each as often as may be
pub record HaveSameTimes (xs ts : List ℚ) : Type 0 where
  pub into : (t : ℚ) → Among t xs → Among t ts
  pub back : (t : ℚ) → Among t ts → Among t xs

-- the steps to them fit
pub record AroundFits (p x : ℚ) : Type 0 where
  pub after : SumFits p x
  pub before : SumFits p (neg_ℚ x)

abbrev pub TimesFit : List Piece → List ℚ → Type 0
TimesFit qs ps = EachTime (λ p. Each (λ q. AroundFits p q.x) qs) ps

-- ---- points
abbrev pub point_at : List Ramp → ℚ → Point
point_at works t = record { time = t; work = amount (spans_of works) t }

-- ---- a window to b
-- by one of the segments
abbrev pub IsShortTo : List Segment → Point → Point → Type 0
IsShortTo ss a b = (s : Segment) × HasSegment s ss × IsShortBy s a b

-- one from a point at t, by the segment, or by one of the segments
abbrev pub StartsBy : List Point → Point → Segment → ℚ → Type 0
StartsBy ps b s t = (a : Point) × HasPoint a ps × IsShortBy s a b × (t ≡ a.time)

abbrev pub StartsTo : List Point → Point → List Segment → ℚ → Type 0
StartsTo ps b ss t = (s : Segment) × HasSegment s ss × StartsBy ps b s t
