-- The first looks at a call: its window with no period, whose gauge no number of periods makes smaller, and the windows
-- with numbers of periods that the number it needs is between. Own choice.
use Rattle.std.specs.Prelude.{◌≡◌, ℕ, ◌<◌, ◌≤◌, ◌^◌, None, IfSome}
use Rattle.upp_limits.specs.declared.op_kind.OpKind.{OpKind}
use Rattle.upp_limits.specs.declared.op_kind.OpFault.{OpFault}
use Rattle.upp_limits.specs.declared.op_kind.OpFault.TheVariants.{TooMany, TooWide, NoMemory}
use Rattle.upp_curve.specs.Curve.{SpecCurve}
use Rattle.upp_limits.specs.Gauges.{gauge_at, tally_at}
use Rattle.curve_call.specs.declared.windows.CallWindow.{CallWindow}
use Rattle.curve_call.specs.declared.gate.FirstLook.{FirstLook}
use Rattle.curve_call.specs.CallWindows.{IsWindow}
use Rattle.curve_call.specs.Frames.{IsFrame, IsRefusedAt}

-- the window of a call with no period, whose gauge is within the limit
pub record IsFirstWindow (op : OpKind) (f g : SpecCurve) (w : CallWindow) : Type 0 where
  pub window : IsWindow op f g 0 0 w
  pub gauge : gauge_at op f g 0 0 < 2 ^ 120

-- that window, and the frame with no period; none only where the call with no period is over the tally's limit
pub record IsFirstLook (op : OpKind) (f g : SpecCurve) (l : FirstLook) : Type 0 where
  pub window : IsFirstWindow op f g l.window
  pub frame : IfSome l.frame (IsFrame op f g 0 0)
  pub many : l.frame ≡ None → 2 ^ 20 < tally_at op f g 0 0

-- the only refusal is for the gauge with no period
abbrev pub IsWideAtFirst : OpKind → SpecCurve → SpecCurve → OpFault → Type 0
IsWideAtFirst op f g TooMany = ⊥
IsWideAtFirst op f g TooWide = 2 ^ 120 ≤ gauge_at op f g 0 0
IsWideAtFirst op f g NoMemory = ⊥

-- the call is over that limit with each number of periods from `low` to `high`
abbrev pub IsRefusedBetween : OpKind → SpecCurve → SpecCurve → ℕ → ℕ → OpFault → Type 0
IsRefusedBetween op f g low high e = (k : ℕ) → low ≤ k → k ≤ high → IsRefusedAt op f g k 0 e
