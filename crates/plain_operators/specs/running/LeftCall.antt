-- A call for what first in, first out leaves of a service: both curves repeat from its start on, the second moved right
-- by theta, and its window ends some periods later. Own choice.
use Rattle.std.specs.Prelude.{◌≡◌, ℕ, ◌+◌, List}
use Rattle.rational.specs.Rational.{ℚ, ◌+ℚ◌, ◌≤ℚ◌, ◌<ℚ◌}
use Rattle.rational.specs.Grid.{Whole}
use Rattle.rational.specs.Extended.{Ext, ◌<ₑ◌}
use Rattle.rational.specs.declared.Extended.TheVariants.{Fin}
use Rattle.upp_curve.specs.declared.affine_segment.line.Piece.{Piece}
use Rattle.upp_limits.specs.declared.op_kind.OpKind.TheVariants.{FifoLeft}
use Rattle.upp_curve.specs.Curve.{SpecCurve, value_at}
use Rattle.upp_curve.specs.Curves.{IsCurve}
use Rattle.min_plus.specs.Functions.{zero_q}
use Rattle.min_plus.specs.Running.{IsFifoLeftover}
use Rattle.upp_curve.specs.Steady.{steady, rate, IsWholePeriods}
use Rattle.upp_limits.specs.Periods.{periods_after}
use Rattle.upp_limits.specs.Windows.{IsBelowFor}
use Rattle.upp_limits.specs.Limits.{Sizes, curve_numbers}
use Rattle.upp_limits.specs.Sized.{Stands, grid_of}
use Rattle.upp_normal.specs.Operand.{AreLimited}
use Rattle.upp_curve.specs.Unrolled.{unroll}
use Rattle.curve_call.specs.declared.stretch.Both.{Both}
use Rattle.curve_call.specs.Stretches.{IsOverlay}
use Rattle.curve_call.specs.Pointwise.{mapped}
use Rattle.curve_call.specs.declared.frame.Frame.{Frame}
use Rattle.curve_call.specs.declared.windows.CallWindow.{CallWindow}
use Rattle.curve_call.specs.FirstWindows.{IsFirstWindow}
use Rattle.plain_operators.specs.running.Behind.{moved, IsServed}
use Rattle.plain_operators.specs.running.Moved.{moved_right}
use Rattle.plain_operators.specs.running.Parts.{left_piece}

-- c is what is left of beta beside cross after the wait theta, at each time from 0 on
abbrev pub IsLeftBeside : SpecCurve → SpecCurve → Ext → SpecCurve → Type 0
IsLeftBeside beta cross theta c =
    (t : ℚ) → zero_q ≤ℚ t → IsFifoLeftover (value_at beta) (value_at cross) theta t (value_at c t)

-- the window ends k + 2 periods after the start
pub record LeftCall (f g : SpecCurve) (theta start period end : ℚ) (k : ℕ) (z : Sizes) : Type 0 where
  pub first : IsCurve f
  pub second : IsCurve g
  pub limited : AreLimited z end
  pub left : Stands z (curve_numbers end f)
  pub right : Stands z (curve_numbers end g)
  pub theta_whole : Whole z.dt theta
  pub theta_low : zero_q ≤ℚ theta
  pub start_whole : Whole z.dt start
  pub nonneg : zero_q ≤ℚ start
  pub left_steady : steady f ≤ℚ start
  pub right_steady : steady g +ℚ theta ≤ℚ start
  pub period_whole : Whole z.dt period
  pub above : zero_q <ℚ period
  pub left_periods : IsWholePeriods f.tail period
  pub right_periods : IsWholePeriods g.tail period
  pub ends : end ≡ periods_after start (k + 2) period

-- a call within both limits, where k periods are enough: for the next one cross, where it is the slower one, is nowhere
-- above beta
pub record IsLeftFrame (f g : SpecCurve) (theta : ℚ) (r : Frame) : Type 0 where
  pub number : ℕ
  pub sizes : Sizes
  pub call : LeftCall f g theta r.start r.period r.end number sizes
  pub times : r.times ≡ sizes.dt
  pub values : r.values ≡ grid_of sizes
  pub enough : rate g <ₑ rate f
      → IsBelowFor (moved (value_at g) theta) (value_at f) (periods_after r.start number r.period) r.period

-- the window with no period, whose gauge is within the limit
pub record IsLeftGate (f g : SpecCurve) (theta : ℚ) (w : CallWindow) : Type 0 where
  pub curve : IsCurve f
  pub other : IsCurve g
  pub served : IsServed (value_at f) (value_at g) theta
  pub first : IsFirstWindow (FifoLeft (Fin theta)) f g w

-- the pieces of what is left of f below `end`: one for each stretch of f and of g moved right
pub record IsLeftWindow (f g : SpecCurve) (theta end : ℚ) (ps : List Piece) : Type 0 where
  pub stretches : List Both
  pub overlay : IsOverlay (unroll f end) (moved_right theta end (unroll g end)) stretches
  pub pieces : ps ≡ mapped left_piece stretches
