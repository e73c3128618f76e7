-- Windows between points of time in which less is worked than a curve that is given by its segments. Own choice.
use Rattle.std.specs.Prelude.{◌≡◌, ◌⊎◌, List, [], ◌∷◌, Option, Some, None}
use Rattle.rational.specs.Rational.{ℚ, ◌+ℚ◌, ◌-ℚ◌, ◌*ℚ◌, ◌≤ℚ◌, ◌<ℚ◌}
use Rattle.flow_watch.specs.declared.watch_laws.point.Point.{Point}
use Rattle.flow_watch.specs.declared.watch_laws.point.Segment.{Segment}

-- ---- lists
abbrev pub EachPoint : (Point → Type 0) → List Point → Type 0
EachPoint P [] = Unit {0}
EachPoint P (p ∷ ps) = P p × EachPoint P ps

abbrev pub HasPoint : Point → List Point → Type 0
HasPoint p [] = ⊥
HasPoint p (q ∷ ps) = (p ≡ q) ⊎ HasPoint p ps

abbrev pub EachSegment : (Segment → Type 0) → List Segment → Type 0
EachSegment P [] = Unit {0}
EachSegment P (s ∷ ss) = P s × EachSegment P ss

abbrev pub HasSegment : Segment → List Segment → Type 0
HasSegment s [] = ⊥
HasSegment s (r ∷ ss) = (s ≡ r) ⊎ HasSegment s ss

-- times don't go back
abbrev pub PointsRise : List Point → Type 0
PointsRise [] = Unit {0}
PointsRise (p ∷ ps) = EachPoint (λ q. p.time ≤ℚ q.time) ps × PointsRise ps

-- ---- windows
-- d is the segment's end, or later; where it has none it never is
abbrev pub IsPastEnd : Option ℚ → ℚ → Type 0
IsPastEnd None d = ⊥
IsPastEnd (Some end) d = end ≤ℚ d

-- the segment's value at d
abbrev pub segment_value : Segment → ℚ → ℚ
segment_value s d = s.value +ℚ s.slope *ℚ (d -ℚ s.start)

-- the window's length is one of the segment's, and the work in it is less than the segment's value there
pub record IsShortBy (s : Segment) (a b : Point) : Type 0 where
  pub from : s.start ≤ℚ b.time -ℚ a.time
  pub upto : ¬ IsPastEnd s.end (b.time -ℚ a.time)
  pub less : b.work <ℚ a.work +ℚ segment_value s (b.time -ℚ a.time)

-- no window from one of the points to b is short by s; none between two of the points, by any
abbrev pub NoneShortTo : List Point → Segment → Point → Type 0
NoneShortTo ps s b = EachPoint (λ a. ¬ IsShortBy s a b) ps

abbrev pub NoneShort : List Segment → List Point → Type 0
NoneShort ss ps = EachSegment (λ s. EachPoint (NoneShortTo ps s) ps) ss

-- some window from one of the points to b is short by one of the segments
pub record IsShortEnd (ss : List Segment) (ps : List Point) (b : Point) : Type 0 where
  pub start : Point
  pub segment : Segment
  pub one_of : HasPoint start ps
  pub in_curve : HasSegment segment ss
  pub short : IsShortBy segment start b
