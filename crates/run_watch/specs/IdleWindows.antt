-- The first window of a stretch that is short of work. Own choice.
use Rattle.std.specs.Prelude.{◌≡◌, ◌⊎◌, List, Option, MatchOption, pos}
use Rattle.rational.specs.Rational.{ℚ, int, ◌≤ℚ◌, ◌<ℚ◌}
use Rattle.flow_watch.specs.watch_laws.Affine.{Among}
use Rattle.flow_watch.specs.declared.watch_laws.point.Segment.{Segment}
use Rattle.flow_watch.specs.watch_laws.Shorts.{EachSegment}
use Rattle.run_watch.specs.declared.span.Ramp.{Ramp}
use Rattle.run_watch.specs.Ramps.{EachRamp, ReadsRamp}
use Rattle.run_watch.specs.FirstEnds.{KeySteps, GapSteps}
use Rattle.run_watch.specs.WatchTimes.{point_at, IsShortTo}
use Rattle.flow_watch.specs.watch_laws.Marks.{FitsRule}
use Rattle.run_watch.specs.FirstEnds.{mark_of, rule_of}

-- between two of these times less is worked than the segments
pub record IsShortWindow (ss : List Segment) (works : List Ramp) (ts : List ℚ) (a b : ℚ) : Type 0 where
  pub from : Among a ts
  pub to : Among b ts
  pub short : IsShortTo ss (point_at works a) (point_at works b)

abbrev pub NoneIsShort : List Segment → List Ramp → List ℚ → Type 0
NoneIsShort ss works ts = (a b : ℚ) → ¬ IsShortWindow ss works ts a b

-- the window with the least end, and of those the least start
pub record IsFirstShort (ss : List Segment) (works : List Ramp) (ts : List ℚ) (a b : ℚ) : Type 0 where
  pub is : IsShortWindow ss works ts a b
  pub least : (x y : ℚ) → IsShortWindow ss works ts x y → (b <ℚ y) ⊎ ((b ≡ y) × (a ≤ℚ x))

abbrev pub FindsShort : List Segment → List Ramp → List ℚ → Option (ℚ × ℚ) → Type 0
FindsShort ss works ts found = MatchOption found (NoneIsShort ss works ts) (λ p. IsFirstShort ss works ts p.0 p.1)

-- no such window ends at t or earlier
abbrev pub NoneEndsBy : List Segment → List Ramp → List ℚ → ℚ → Type 0
NoneEndsBy ss works ts t = (a b : ℚ) → IsShortWindow ss works ts a b → t <ℚ b

-- ---- sizes
-- the steps at one time fit
pub record TimeFits (ss : List Segment) (works : List Ramp) (t : ℚ) : Type 0 where
  pub reads : EachRamp (ReadsRamp t) works
  pub keys : EachSegment (λ s. KeySteps s.slope (point_at works t)) ss
  pub marks : EachSegment (λ s. FitsRule (rule_of s) (mark_of s.slope (point_at works t))) ss

-- so for the segments alone; they start at 0 or later
pub record SegmentsFit (ss : List Segment) : Type 0 where
  pub gaps : EachSegment GapSteps ss
  pub starts : EachSegment (λ s. int (pos 0) ≤ℚ s.start) ss
