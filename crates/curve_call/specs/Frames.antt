-- A call within both limits, and why it is refused by them. Own choice.
use Rattle.std.specs.Prelude.{◌≡◌, ℕ, ◌<◌, ◌≤◌, ◌^◌}
use Rattle.rational.specs.Rational.{ℚ}
use Rattle.upp_limits.specs.declared.op_kind.OpKind.{OpKind}
use Rattle.upp_limits.specs.declared.op_kind.OpFault.{OpFault}
use Rattle.upp_limits.specs.declared.op_kind.OpFault.TheVariants.{TooMany, TooWide, NoMemory}
use Rattle.upp_curve.specs.Curve.{SpecCurve}
use Rattle.upp_curve.specs.Curves.{IsCurve}
use Rattle.upp_limits.specs.Windows.{window_at}
use Rattle.upp_limits.specs.Limits.{Sizes, sizes_of}
use Rattle.upp_limits.specs.Gauges.{numbers_over, gauge_over, gauge_at, tally_at}
use Rattle.upp_limits.specs.Sized.{grid_of}
use Rattle.curve_call.specs.declared.frame.Frame.{Frame}
use Rattle.curve_call.specs.CallWindows.{SecondIsCurve, start_of, period_in}

-- the sizes of a call with k and m periods
abbrev pub sizes_at : OpKind → SpecCurve → SpecCurve → ℕ → ℕ → Sizes
sizes_at op f g k m = sizes_of (window_at op f g k m) (numbers_over op f g (window_at op f g k m))

-- a frame of a call with k and m periods: its window, and its grids; the call is within both limits
pub record IsFrame (op : OpKind) (f g : SpecCurve) (k m : ℕ) (r : Frame) : Type 0 where
  pub first : IsCurve f
  pub second : SecondIsCurve op g
  pub start : r.start ≡ start_of op f g
  pub period : r.period ≡ period_in op f g
  pub end : r.end ≡ window_at op f g k m
  pub times : r.times ≡ (sizes_at op f g k m).dt
  pub values : r.values ≡ grid_of (sizes_at op f g k m)
  pub gauge : gauge_at op f g k m < 2 ^ 120
  pub tally : tally_at op f g k m ≤ 2 ^ 20

-- with k and m periods the call is over that limit; want of memory is no cause
abbrev pub IsRefusedAt : OpKind → SpecCurve → SpecCurve → ℕ → ℕ → OpFault → Type 0
IsRefusedAt op f g k m TooMany = (gauge_at op f g k m < 2 ^ 120) × (2 ^ 20 < tally_at op f g k m)
IsRefusedAt op f g k m TooWide = 2 ^ 120 ≤ gauge_at op f g k m
IsRefusedAt op f g k m NoMemory = ⊥

-- ---- over a window's end
abbrev pub IsWideOver : OpKind → SpecCurve → SpecCurve → ℚ → OpFault → Type 0
IsWideOver op f g end TooMany = ⊥
IsWideOver op f g end TooWide = 2 ^ 120 ≤ gauge_over op f g end
IsWideOver op f g end NoMemory = ⊥
