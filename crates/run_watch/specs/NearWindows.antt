-- Windows of a stretch of which one end is one of its turns, and the other is too, or is as far away as one of the curve's
-- segments starts: where none of these is short of work, no window of the stretch is; else the least of their ends. Own choice.
use Rattle.std.specs.Prelude.{◌≡◌, ◌⊎◌, pos, List, [], ◌∷◌, map, Option, Some, None, MatchOption, if◌then◌else◌}
use Rattle.rational.specs.Rational.{ℚ, int, ◌+ℚ◌, ◌-ℚ◌, ◌≤ℚ◌, lt_q, neg_ℚ}
use Rattle.rational.specs.Ratio.{SumFits}
use Rattle.flow_watch.specs.declared.watch_laws.point.Point.{Point}
use Rattle.flow_watch.specs.declared.watch_laws.point.Segment.{Segment}
use Rattle.flow_watch.specs.watch_laws.Shorts.{HasPoint, EachSegment, HasSegment, IsShortBy}
use Rattle.run_watch.specs.declared.span.Ramp.{Ramp}
use Rattle.run_watch.specs.declared.watched.Stretch.{Stretch}
use Rattle.run_watch.specs.Ramps.{EachRamp, ReadsRamp}
use Rattle.run_watch.specs.FirstEnds.{FitsMarks}
use Rattle.run_watch.specs.WatchTimes.{point_at}
use Rattle.run_watch.specs.IdleWindows.{IsShortWindow}

-- ---- a turn and a segment
-- the segment starts at 0, with no more than 0 there: no window without length is short by it
pub record AsksNothing (g : Segment) : Type 0 where
  pub start : g.start ≡ int (pos 0)
  pub value : g.value ≤ℚ int (pos 0)

-- the window from p on that is as long as the segment's start is in the stretch, and short by the segment
pub record IsShortAfter (works : List Ramp) (s : Stretch) (p : Point) (g : Segment) : Type 0 where
  pub inside : p.time +ℚ g.start ≤ℚ s.end
  pub short : IsShortBy g p (point_at works (p.time +ℚ g.start))

-- the one up to p
pub record IsShortBefore (works : List Ramp) (s : Stretch) (p : Point) (g : Segment) : Type 0 where
  pub inside : s.start ≤ℚ p.time -ℚ g.start
  pub short : IsShortBy g (point_at works (p.time -ℚ g.start)) p

-- and they end at t
abbrev pub IsEndAfter : List Ramp → Stretch → Point → Segment → ℚ → Type 0
IsEndAfter works s p g t = IsShortAfter works s p g × (t ≡ p.time +ℚ g.start)

abbrev pub IsEndBefore : List Ramp → Stretch → Point → Segment → ℚ → Type 0
IsEndBefore works s p g t = IsShortBefore works s p g × (t ≡ p.time)

abbrev pub IsNearEnd : List Ramp → Stretch → Point → Segment → ℚ → Type 0
IsNearEnd works s p g t = IsEndBefore works s p g t ⊎ IsEndAfter works s p g t

-- ---- all turns and segments
-- by one of the segments
abbrev pub IsNearEndBy : List Segment → List Ramp → Stretch → Point → ℚ → Type 0
IsNearEndBy ss works s p t = (g : Segment) × HasSegment g ss × IsNearEnd works s p g t

-- and at one of the turns
abbrev pub IsNearEndOf : List Segment → List Ramp → Stretch → List Point → ℚ → Type 0
IsNearEndOf ss works s ps t = (p : Point) × HasPoint p ps × IsNearEndBy ss works s p t

-- one of these windows is short, between two of the turns or near one, and ends at t
abbrev pub EndsShort : List Segment → List Ramp → Stretch → List ℚ → ℚ → Type 0
EndsShort ss works s ts t = ((a : ℚ) × IsShortWindow ss works ts a t)
    ⊎ IsNearEndOf ss works s (map (point_at works) ts) t

-- ---- the least
abbrev pub earlier_time : Option ℚ → Option ℚ → Option ℚ
earlier_time None next = next
earlier_time (Some t) None = Some t
earlier_time (Some t) (Some u) = if lt_q u t then Some u else Some t

-- the least of some times; none where there is none
abbrev pub IsLeast : (ℚ → Type 0) → Option ℚ → Type 0
IsLeast P o = MatchOption o ((t : ℚ) → ¬ P t) (λ t. P t × ((u : ℚ) → P u → t ≤ℚ u))

-- ---- sizes
-- the steps by the segment at one time fit
pub record FitsAt (works : List Ramp) (g : Segment) (t : ℚ) : Type 0 where
  pub reads : EachRamp (ReadsRamp t) works
  pub marks : FitsMarks (point_at works t ∷ []) g

-- those near p, as far as they are in the stretch
pub record FitsNear (works : List Ramp) (s : Stretch) (g : Segment) (p : Point) : Type 0 where
  pub after : SumFits p.time g.start
  pub before : SumFits p.time (neg_ℚ g.start)
  pub own : FitsMarks (p ∷ []) g
  pub later : p.time +ℚ g.start ≤ℚ s.end → FitsAt works g (p.time +ℚ g.start)
  pub earlier : s.start ≤ℚ p.time -ℚ g.start → FitsAt works g (p.time -ℚ g.start)

abbrev pub FitsNearBy : List Segment → List Ramp → Stretch → Point → Type 0
FitsNearBy ss works s p = EachSegment (λ g. FitsNear works s g p) ss
