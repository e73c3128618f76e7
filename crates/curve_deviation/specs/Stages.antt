-- The two numbers of periods of a horizontal deviation, and how they are looked for. Own choice.
use Rattle.std.specs.Prelude.{◌≡◌, ℕ, suc, ◌<◌, ◌≤◌, ◌^◌, ◌⊎◌}
use Rattle.rational.specs.Rational.{ℚ}
use Rattle.rational.specs.Extended.{◌≤ₑ◌, ◌<ₑ◌}
use Rattle.rational.specs.declared.Extended.TheVariants.{Fin}
use Rattle.upp_limits.specs.declared.op_kind.OpKind.TheVariants.{Horizontal}
use Rattle.upp_curve.specs.Curve.{SpecCurve, value_at}
use Rattle.min_plus.specs.Functions.{IsFinite, IsRising}
use Rattle.upp_curve.specs.Steady.{steady}
use Rattle.upp_limits.specs.Periods.{common_period, periods_after}
use Rattle.upp_limits.specs.Windows.{IsLeastPeriods, Reaches, Meets as KindMeets}
use Rattle.upp_limits.specs.Gauges.{gauge_at}
use Rattle.curve_deviation.specs.declared.horizontals.Periods.{Periods}
use Rattle.curve_deviation.specs.declared.horizontals.Turn.{Turn}
use Rattle.curve_deviation.specs.declared.horizontals.FoundCall.{FoundCall}
use Rattle.curve_call.specs.Frames.{IsFrame}
use Rattle.curve_call.specs.declared.windows.CallWindow.{CallWindow}
use Rattle.curve_call.specs.CallWindows.{IsWindow}
use Rattle.curve_deviation.specs.declared.search.Stage.{Stage}
use Rattle.curve_deviation.specs.declared.search.Stage.TheVariants.{First, Second}

-- both are numbers at each time, and never fall
pub record AreFinite (f g : SpecCurve) : Type 0 where
  pub first : IsFinite (value_at f)
  pub second : IsFinite (value_at g)
  pub first_rises : IsRising (value_at f)
  pub second_rises : IsRising (value_at g)

-- a window whose gauge is below the limit
pub record IsNarrowWindow (f g : SpecCurve) (k m : ℕ) (w : CallWindow) : Type 0 where
  pub window : IsWindow Horizontal f g k m w
  pub gauge : gauge_at Horizontal f g k m < 2 ^ 120

-- k periods after it begins to repeat f is above the level
abbrev pub HasLeft : ℚ → SpecCurve → SpecCurve → ℕ → Type 0
HasLeft level f g k = Fin level <ₑ value_at f (periods_after (steady f) k (common_period f g))

-- the time a period after f has left the level
abbrev pub settled : SpecCurve → SpecCurve → ℕ → ℚ
settled f g first = periods_after (steady f) (suc first) (common_period f g)

-- k periods after that time g is at the level or above it
abbrev pub HasReached : ℕ → ℚ → SpecCurve → SpecCurve → ℕ → Type 0
HasReached first level f g k = Fin level ≤ₑ value_at g (periods_after (settled f g first) k (common_period f g))

abbrev pub Meets : Stage → SpecCurve → SpecCurve → ℕ → Type 0
Meets (First level) f g k = HasLeft level f g k
Meets (Second first level) f g k = HasReached first level f g k

abbrev pub stage_gauge : Stage → SpecCurve → SpecCurve → ℕ → ℕ
stage_gauge (First level) f g k = gauge_at Horizontal f g k 0
stage_gauge (Second first level) f g k = gauge_at Horizontal f g first k

-- not met, within the limit
pub record IsBefore (P : Type 0) (gauge : ℕ) : Type 0 where
  pub unmet : ¬ P
  pub narrow : gauge < 2 ^ 120

-- met, or over the limit
abbrev pub IsPast : Type 0 → ℕ → Type 0
IsPast P gauge = P ⊎ (2 ^ 120 ≤ gauge)

-- ---- the two numbers
-- the call is too wide with the least numbers of periods, if there are any
abbrev pub IsWideCall : SpecCurve → SpecCurve → Type 0
IsWideCall f g = (k m : ℕ) → IsLeastPeriods Horizontal f g k m → 2 ^ 120 ≤ gauge_at Horizontal f g k m

-- no smaller number is enough, and this one is, or with it the call is too wide already
pub record IsFirst (f g : SpecCurve) (j : ℕ) : Type 0 where
  pub below : (i : ℕ) → i < j → ¬ (KindMeets Horizontal f g i)
  pub past : IsPast (KindMeets Horizontal f g j) (gauge_at Horizontal f g j 0)

pub record AreFound (f g : SpecCurve) (p : Periods) : Type 0 where
  pub first : IsFirst f g p.first
  pub below : (i : ℕ) → i < p.second → ¬ (Reaches Horizontal f g p.first i)
  pub past : IsPast (Reaches Horizontal f g p.first p.second) (gauge_at Horizontal f g p.first p.second)
  pub until : p.until ≡ settled f g p.first

-- the time when the first has settled, and its value then
pub record IsSettledAt (f g : SpecCurve) (first : ℕ) (t : Turn) : Type 0 where
  pub time : t.time ≡ settled f g first
  pub level : value_at f t.time ≡ Fin t.level

-- a call that is within the gauge with both numbers, and its window
pub record IsFoundCall (f g : SpecCurve) (c : FoundCall) : Type 0 where
  pub found : AreFound f g c.periods
  pub frame : IsFrame Horizontal f g c.periods.first c.periods.second c.frame

-- when f has settled after so many periods, or fewer with which g is then no lower than f is after all of them
pub record IsEnough (f g : SpecCurve) (first : ℕ) (t : ℚ) : Type 0 where
  pub count : ℕ
  pub few : count ≤ first
  pub time : t ≡ settled f g count
  pub reached : count < first → value_at f (settled f g first) ≤ₑ value_at g t
