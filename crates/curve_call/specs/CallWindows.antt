-- The end of a call's window as whole periods after a start: from when on its periods are counted, how many the
-- window holds, and how long they are. Own choice.
use Rattle.std.specs.Prelude.{◌≡◌, ℕ, ◌+◌}
use Rattle.rational.specs.Rational.{ℚ, ◌+ℚ◌, ◌≤ℚ◌}
use Rattle.rational.specs.Ratio.{SumFits}
use Rattle.rational.specs.declared.Extended.TheVariants.{Fin, Inf}
use Rattle.upp_limits.specs.declared.op_kind.OpKind.{OpKind}
use Rattle.upp_limits.specs.declared.op_kind.OpKind.TheVariants.{Sum, Min, Max, PosDiff, PosMinus, Scale, Shift, RunSup, RunInf, FifoLeft, Convolve, Deconvolve, Horizontal, Vertical, Itself}
use Rattle.upp_curve.specs.Curve.{SpecCurve}
use Rattle.upp_curve.specs.Curves.{IsCurve}
use Rattle.min_plus.specs.Functions.{zero_q}
use Rattle.upp_curve.specs.Steady.{steady}
use Rattle.upp_limits.specs.Periods.{common_period, own_period, period_of, period_or, both_steady, moved_steady}
use Rattle.upp_limits.specs.Windows.{window_at}
use Rattle.curve_call.specs.declared.windows.CallWindow.{CallWindow}
use Rattle.curve_call.specs.Times.{OneLaterFits, BothSteadyFit, MovedFits, AheadFits}

-- a shift and a wait are by a finite time from 0 on
abbrev pub IsForward : OpKind → Type 0
IsForward (Shift Inf) = ⊥
IsForward (FifoLeft Inf) = ⊥
IsForward (Shift (Fin x)) = zero_q ≤ℚ x
IsForward (FifoLeft (Fin x)) = zero_q ≤ℚ x
IsForward op = Unit {0}

abbrev pub start_of : OpKind → SpecCurve → SpecCurve → ℚ
start_of Sum f g = both_steady f g
start_of Min f g = both_steady f g
start_of Max f g = both_steady f g
start_of PosDiff f g = both_steady f g
start_of (PosMinus l) f g = steady f
start_of (Scale q) f g = steady f
start_of (Shift Inf) f g = zero_q
start_of (Shift (Fin x)) f g = steady f +ℚ x
start_of RunSup f g = steady f
start_of RunInf f g = steady f
start_of (FifoLeft Inf) f g = zero_q
start_of (FifoLeft (Fin theta)) f g = moved_steady f g theta
start_of Convolve f g = steady f +ℚ steady g
start_of Deconvolve f g = steady f +ℚ period_or (common_period f g) (period_of f.tail) +ℚ both_steady f g
start_of Horizontal f g = steady f
start_of Vertical f g = both_steady f g
start_of Itself f g = steady f

-- of a call with k periods, and for the horizontal deviation with a second number m
abbrev pub number_of : OpKind → ℕ → ℕ → ℕ
number_of Sum k m = 1
number_of Min k m = k + 1
number_of Max k m = k + 1
number_of PosDiff k m = k + 1
number_of (PosMinus l) k m = k + 1
number_of (Scale q) k m = 1
number_of (Shift Inf) k m = 0
number_of (Shift (Fin x)) k m = 1
number_of RunSup k m = k + 2
number_of RunInf k m = 2
number_of (FifoLeft Inf) k m = 0
number_of (FifoLeft (Fin theta)) k m = k + 2
number_of Convolve k m = k + 2
number_of Deconvolve k m = 1
number_of Horizontal k m = k + 1 + (m + 1)
number_of Vertical k m = 1
number_of Itself k m = 1

-- the common period of the operands: that of f alone, or of both
abbrev pub period_in : OpKind → SpecCurve → SpecCurve → ℚ
period_in (PosMinus l) f g = own_period f
period_in (Scale q) f g = own_period f
period_in (Shift x) f g = own_period f
period_in RunSup f g = own_period f
period_in RunInf f g = own_period f
period_in Itself f g = own_period f
period_in op f g = common_period f g

-- the second operand is a curve, where the call has one
abbrev pub SecondIsCurve : OpKind → SpecCurve → Type 0
SecondIsCurve (PosMinus l) g = Unit {0}
SecondIsCurve (Scale q) g = Unit {0}
SecondIsCurve (Shift x) g = Unit {0}
SecondIsCurve RunSup g = Unit {0}
SecondIsCurve RunInf g = Unit {0}
SecondIsCurve Itself g = Unit {0}
SecondIsCurve op g = IsCurve g

-- ---- steps that fit
abbrev pub StartFits : OpKind → SpecCurve → SpecCurve → Type 0
StartFits Sum f g = BothSteadyFit f g
StartFits Min f g = BothSteadyFit f g
StartFits Max f g = BothSteadyFit f g
StartFits PosDiff f g = BothSteadyFit f g
StartFits (PosMinus l) f g = OneLaterFits f
StartFits (Scale q) f g = OneLaterFits f
StartFits (Shift Inf) f g = Unit {0}
StartFits (Shift (Fin x)) f g = OneLaterFits f × SumFits (steady f) x
StartFits RunSup f g = OneLaterFits f
StartFits RunInf f g = OneLaterFits f
StartFits (FifoLeft Inf) f g = Unit {0}
StartFits (FifoLeft (Fin theta)) f g = MovedFits f g theta
StartFits Convolve f g = BothSteadyFit f g × SumFits (steady f) (steady g)
StartFits Deconvolve f g = AheadFits f g
StartFits Horizontal f g = OneLaterFits f
StartFits Vertical f g = BothSteadyFit f g
StartFits Itself f g = OneLaterFits f

-- ---- the window
-- the window of a call with k and m periods
pub record IsWindow (op : OpKind) (f g : SpecCurve) (k m : ℕ) (w : CallWindow) : Type 0 where
  pub start : w.start ≡ start_of op f g
  pub period : w.period ≡ period_in op f g
  pub end : w.end ≡ window_at op f g k m
