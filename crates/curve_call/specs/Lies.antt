-- How two lines lie on an open stretch: which is nowhere above the other, and where they change places. No line is
-- infinity. Own choice.
use Rattle.std.specs.Prelude.{◌≡◌, Bool, true, false, Option, Some, None}
use Rattle.rational.specs.Rational.{ℚ, ◌<ℚ◌}
use Rattle.rational.specs.Extended.{◌≤ₑ◌}
use Rattle.fraction128.specs.declared.fault.Wide.{Wide}
use Rattle.upp_curve.specs.declared.affine_segment.line.Line.{Line}
use Rattle.upp_curve.specs.affine_segment.Values.{line_at, line_value}
use Rattle.upp_curve.specs.affine_segment.Steps.{IsWideCross}
use Rattle.curve_call.specs.declared.lie.Lie.{Lie}

-- at t the first line is not above the second (true), or not below it (false)
abbrev pub IsOrdered : Bool → Option Line → Option Line → ℚ → Type 0
IsOrdered true l m t = line_value l t ≤ₑ line_value m t
IsOrdered false l m t = line_value m t ≤ₑ line_value l t

-- the two meet at t, where the first rises past the second (true), or falls past it (false)
abbrev pub MeetsAt : Bool → Line → Line → ℚ → Type 0
MeetsAt true l m t = (m.slope <ℚ l.slope) × (line_at l t ≡ line_at m t)
MeetsAt false l m t = (l.slope <ℚ m.slope) × (line_at l t ≡ line_at m t)

abbrev pub CrossesAt : Bool → Option Line → Option Line → ℚ → Type 0
CrossesAt rises None m t = ⊥
CrossesAt rises (Some l) None t = ⊥
CrossesAt rises (Some l) (Some m) t = MeetsAt rises l m t

-- the two change places at x, strictly between `from` and `to`
pub record ChangesPlaces (rises : Bool) (l m : Option Line) (from to x : ℚ) : Type 0 where
  pub past : from <ℚ x
  pub before : x <ℚ to
  pub meets : CrossesAt rises l m x

-- strictly between `from` and `to` they are ordered so throughout, or up to the turn
abbrev pub LiesBy : Bool → Option Line → Option Line → ℚ → ℚ → Option ℚ → Type 0
LiesBy below l m from to None = (t : ℚ) → from <ℚ t → t <ℚ to → IsOrdered below l m t
LiesBy below l m from to (Some x) = ChangesPlaces below l m from to x

abbrev pub IsLie : Option Line → Option Line → ℚ → ℚ → Lie → Type 0
IsLie l m from to lie = LiesBy lie.below l m from to lie.turn

-- no step of the time at which they meet is too wide
abbrev pub CrossFits : Option Line → Option Line → Type 0
CrossFits None m = Unit {0}
CrossFits (Some l) None = Unit {0}
CrossFits (Some l) (Some m) = (w : Wide) → ¬ (IsWideCross l m w)
