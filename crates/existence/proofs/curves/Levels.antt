-- What a curve has above a level has an answer.
use Rattle.std.specs.Prelude.{ℕ, ◌<◌, ◌^◌, Some, None}
use Rattle.std.proofs.Common.{refl, inl, inr}
use Rattle.std.proofs.lemmas.Bool.{cases_lt}
use Rattle.rational.specs.Rational.{ℚ}
use Rattle.upp_curve.specs.Curve.{SpecCurve, value_at}
use Rattle.upp_curve.specs.Curves.{IsCurve}
use Rattle.upp_curve.specs.Steady.{steady}
use Rattle.upp_limits.specs.declared.op_kind.OpKind.TheVariants.{PosMinus}
use Rattle.upp_limits.specs.declared.op_kind.OpFault.TheVariants.{TooWide}
use Rattle.upp_limits.specs.Gauges.{gauge_at}
use Rattle.upp_limits.specs.Periods.{own_period}
use Rattle.upp_limits.specs.Windows.{window_at, IsLeast}
use Rattle.min_plus.specs.Functions.{IsFinite}
use Rattle.curve_call.specs.declared.frame.Frame.{Frame}
use Rattle.curve_call.specs.declared.windows.CallWindow.{CallWindow}
use Rattle.curve_call.specs.Answers.{IsMadeBy}
use Rattle.curve_call.specs.FirstWindows.{IsFirstWindow}
use Rattle.curve_call.specs.Frames.{IsFrame}
use Rattle.curve_call.specs.Levels.{level_curve}
use Rattle.curve_call.specs.Compared.{IsEnough}
use Rattle.existence.specs.curves.Answered.{HasAnswer}
use Rattle.existence.proofs.curves.Answered.{at_least, too_wide}
use Rattle.existence.proofs.curves.Least.{IsFound, least_of}
use Rattle.plain_operators.specs.declared.pointwise.lattice.Lattice.TheVariants.{Excess}
use Rattle.existence.proofs.curves.Lattices.{lattice_curve}
use Rattle.plain_operators.proofs.pointwise.LatticeLevels.{minus_compared, minus_wide, minus_none, minus_least, minus_frame, minus_values}
use Rattle.curve_call.specs.Calls.{Applies}

first_window : ℚ → SpecCurve → CallWindow
first_window l f = record { start = steady f; period = own_period f; end = window_at (PosMinus l) f f 0 0 }

is_first : (l : ℚ) (f : SpecCurve) → gauge_at (PosMinus l) f f 0 0 < 2 ^ 120 → IsFirstWindow (PosMinus l) f f (first_window l f)
unfolding first_window
is_first l f small = record { window = record { start = refl; period = refl; end = refl }; gauge = small }

made : (l : ℚ) (f : SpecCurve) (w : CallWindow) (k : ℕ) → IsFinite (value_at f) → IsFirstWindow (PosMinus l) f f w → IsLeast (IsEnough f (level_curve l) w.start w.period) k → (r : Frame) → IsFrame (PosMinus l) f f k 0 r
    → (h : SpecCurve) × IsMadeBy (PosMinus l) f f h
made l f w k finite W L r F =
    let (c, curve, same) = lattice_curve Excess f (level_curve l) r (minus_frame l f w k r W L F) finite in
    (c, record { curve = curve; answers = minus_values l f c same })

by_number : (l : ℚ) (f : SpecCurve) (w : CallWindow) → IsCurve f → IsFinite (value_at f) → IsFirstWindow (PosMinus l) f f w → IsFound (IsEnough f (level_curve l) w.start w.period) → HasAnswer (Applies (PosMinus l) f f)
by_number l f w F finite W (None, none) = too_wide (PosMinus l) f f (minus_none l f w F W none)
by_number l f w F finite W (Some k, L) = at_least (PosMinus l) f f k 0 F tt (λ h. h) (minus_least l f w k F W L) (made l f w k finite W L)

pub minus_answered : (l : ℚ) (f : SpecCurve) → IsCurve f → IsFinite (value_at f) → HasAnswer (Applies (PosMinus l) f f)
minus_answered l f F finite = elim (cases_lt (gauge_at (PosMinus l) f f 0 0) (2 ^ 120)) [
  | inr wide ↦ too_wide (PosMinus l) f f (minus_wide l f TooWide F wide)
  | inl small ↦
      let w = first_window l f in
      let W = is_first l f small in
      let (z, C) = minus_compared l f w F W in
      by_number l f w F finite W (least_of z w.start w.period f (level_curve l) C)
]
