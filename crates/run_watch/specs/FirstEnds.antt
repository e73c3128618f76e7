-- Windows between points as pairs of marks, the points in reach of some ends, and the first end to which a window is short. Own
-- choice.
use Rattle.std.specs.Prelude.{◌≡◌, ℕ, ◌<◌, ◌≤◌, List, length, take, slice_get, Some}
use Rattle.rational.specs.Rational.{ℚ, ◌-ℚ◌, ◌*ℚ◌, ◌+ℚ◌, ◌≤ℚ◌, ◌<ℚ◌, neg_ℚ}
use Rattle.rational.specs.Ratio.{IsSmall, SumFits}
use Rattle.flow_watch.specs.declared.watch_laws.mark.Mark.{Mark}
use Rattle.flow_watch.specs.declared.watch_laws.mark.Rule.{Rule}
use Rattle.flow_watch.specs.declared.watch_laws.point.Point.{Point}
use Rattle.flow_watch.specs.declared.watch_laws.point.Segment.{Segment}
use Rattle.flow_watch.specs.watch_laws.Marks.{FitsRule}
use Rattle.flow_watch.specs.watch_laws.Shorts.{EachPoint, HasPoint, EachSegment, PointsRise, IsShortBy, NoneShortTo, IsShortEnd}

-- ---- as marks under a rule
abbrev pub mark_of : ℚ → Point → Mark
mark_of slope p = record { time = p.time; start_key = p.work -ℚ slope *ℚ p.time; end_key = p.work -ℚ slope *ℚ p.time }

abbrev pub rule_of : Segment → Rule
rule_of s = record { least = s.start; most = s.end; gap = s.value -ℚ s.slope *ℚ s.start }

-- ---- sizes
pub record KeySteps (slope : ℚ) (p : Point) : Type 0 where
  pub product : IsSmall (slope *ℚ p.time)
  pub difference : SumFits p.work (neg_ℚ (slope *ℚ p.time))

pub record GapSteps (s : Segment) : Type 0 where
  pub product : IsSmall (s.slope *ℚ s.start)
  pub difference : SumFits s.value (neg_ℚ (s.slope *ℚ s.start))

-- the steps for one segment over the points fit
pub record FitsMarks (ps : List Point) (s : Segment) : Type 0 where
  pub keys : EachPoint (KeySteps s.slope) ps
  pub gap : GapSteps s
  pub marks : EachPoint (λ p. FitsRule (rule_of s) (mark_of s.slope p)) ps

abbrev pub FitsSegments : List Point → List Segment → Type 0
FitsSegments ps ss = EachSegment (FitsMarks ps) ss

-- ---- the points from which a window may be short by the segment
-- a window from p that is long enough for the rule ends after t
abbrev pub IsTooLate : Rule → ℚ → Point → Type 0
IsTooLate r t p = t <ℚ p.time +ℚ r.least

-- qs are some of ps: those from which a window is short that ends from `first` to `last`
pub record HoldsStarts (s : Segment) (ps : List Point) (first last : ℚ) (qs : List Point) : Type 0 where
  pub are : (a : Point) → HasPoint a qs → HasPoint a ps
  pub all : (a b : Point) → HasPoint a ps → first ≤ℚ b.time → b.time ≤ℚ last → IsShortBy s a b → HasPoint a qs
  pub rise : PointsRise qs

-- ---- the first of some ends to which a window from one of the points is short
-- by one segment: the number of that end, or how many ends there are
pub record IsFirstBy (s : Segment) (ps ends : List Point) (k : ℕ) : Type 0 where
  pub in_range : k ≤ length ends
  pub none : EachPoint (NoneShortTo ps s) (take k ends)
  pub there : k < length ends
      → (b : Point) × (slice_get ends k ≡ Some b) × ((a : Point) × HasPoint a ps × IsShortBy s a b)

-- by some of the segments
pub record IsFirstEnd (some ss : List Segment) (ps ends : List Point) (k : ℕ) : Type 0 where
  pub in_range : k ≤ length ends
  pub none : EachSegment (λ s. EachPoint (NoneShortTo ps s) (take k ends)) some
  pub there : k < length ends → (b : Point) × (slice_get ends k ≡ Some b) × IsShortEnd ss ps b
