-- Where marks stand and how large they are, by the sizes of a gauge below 2 ^ 120 whose window ends with the run: no
-- step of a scan is too wide. Own choice.
use Rattle.std.specs.Prelude.{Option, Some, None, pos}
use Rattle.rational.specs.Rational.{ℚ, int, ◌-ℚ◌, ◌*ℚ◌, ◌≤ℚ◌, neg_ℚ}
use Rattle.rational.specs.Grid.{Whole, Within}
use Rattle.rational.specs.Ratio.{IsSmall, SumFits}
use Rattle.upp_limits.specs.Limits.{Sizes}
use Rattle.upp_limits.specs.Sized.{IsSlope, grid_of, times_largest}
use Rattle.upp_normal.specs.Operand.{AreLimited}
use Rattle.flow_watch.specs.declared.watch_laws.mark.Mark.{Mark}
use Rattle.flow_watch.specs.declared.watch_laws.mark.Rule.{Rule}
use Rattle.flow_watch.specs.watch_laws.Marks.{FitsRule}

-- a time of the run, or a length of time
pub record IsTime (z : Sizes) (end t : ℚ) : Type 0 where
  pub whole : Whole z.dt t
  pub low : int (pos 0) ≤ℚ t
  pub high : t ≤ℚ end

-- an amount of work
pub record IsAmount (z : Sizes) (w : ℚ) : Type 0 where
  pub whole : Whole (grid_of z) w
  pub within : Within (times_largest 1 z) w

-- an amount less a slope times a time
pub record IsKey (z : Sizes) (k : ℚ) : Type 0 where
  pub whole : Whole (grid_of z) k
  pub within : Within (times_largest 2 z) k

abbrev pub IsTimeIfAny : Sizes → ℚ → Option ℚ → Type 0
IsTimeIfAny z end None = Unit {0}
IsTimeIfAny z end (Some t) = IsTime z end t

pub record MarkStands (z : Sizes) (end : ℚ) (m : Mark) : Type 0 where
  pub time : IsTime z end m.time
  pub key : IsKey z m.start_key

pub record RuleStands (z : Sizes) (end : ℚ) (r : Rule) : Type 0 where
  pub least : IsTime z end r.least
  pub most : IsTimeIfAny z end r.most
  pub gap : IsKey z r.gap

-- the steps from an amount w to the key w - s t fit, and it is one
pub record KeyFits (z : Sizes) (w s t : ℚ) : Type 0 where
  pub product : IsSmall (s *ℚ t)
  pub difference : SumFits w (neg_ℚ (s *ℚ t))
  pub is : IsKey z (w -ℚ s *ℚ t)

abbrev pub MarksFit : Type 0
MarksFit = (z : Sizes) (end : ℚ) (r : Rule) (m : Mark) → AreLimited z end → RuleStands z end r → MarkStands z end m
    → FitsRule r m

abbrev pub KeysFit : Type 0
KeysFit = (z : Sizes) (end w s t : ℚ) → AreLimited z end → IsAmount z w → IsSlope z s → IsTime z end t → KeyFits z w s t
