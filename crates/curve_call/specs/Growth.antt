-- The shape of the curve of a service, and when each kind of call keeps it. (Le Boudec and Thiran: wide-sense
-- increasing functions that are 0 at 0; that they are finite too is own choice.)
use Rattle.std.specs.Prelude.{◌≡◌}
use Rattle.rational.specs.Rational.{ℚ, ◌≤ℚ◌}
use Rattle.rational.specs.Extended.{Ext, ◌≤ₑ◌}
use Rattle.rational.specs.declared.Extended.TheVariants.{Fin}
use Rattle.upp_limits.specs.declared.op_kind.OpKind.{OpKind}
use Rattle.upp_limits.specs.declared.op_kind.OpKind.TheVariants.{Sum, Min, Max, PosDiff, PosMinus, Scale, Shift, RunSup, RunInf, FifoLeft, Convolve, Deconvolve, Horizontal, Vertical, Itself}
use Rattle.upp_curve.specs.Curve.{SpecCurve, value_at}
use Rattle.upp_curve.specs.Curves.{IsCurve}
use Rattle.min_plus.specs.Functions.{zero_q, IsFinite, IsRising, IsNonnegative}
use Rattle.curve_call.specs.Answers.{IsAnswer}
use Rattle.curve_call.specs.Finite.{IsBounded}

-- finite, 0 at 0, never falling, and so nowhere below 0
pub record GrowsFromZero (f : ℚ → Ext) : Type 0 where
  pub finite : IsFinite f
  pub start : f zero_q ≡ Fin zero_q
  pub rising : IsRising f
  pub nonneg : IsNonnegative f

-- a curve, and of that shape
pub record IsGrowingCurve (c : SpecCurve) : Type 0 where
  pub curve : IsCurve c
  pub grows : GrowsFromZero (value_at c)

-- finite, 0 at 0 and nowhere below 0; it may fall
pub record StartsAtNothing (f : ℚ → Ext) : Type 0 where
  pub finite : IsFinite f
  pub start : f zero_q ≡ Fin zero_q
  pub nonneg : IsNonnegative f

-- the same, but that only up to each time it is at most some number
pub record IsBoundedFromZero (f : ℚ → Ext) : Type 0 where
  pub bounded : IsBounded f
  pub start : f zero_q ≡ Fin zero_q
  pub nonneg : IsNonnegative f

-- what an answer that grows from zero needs of the operands f and g; a running bound makes a function that may fall
-- grow, and so does first in, first out; a difference and a shift need not
abbrev pub AreGrowingFor : OpKind → (ℚ → Ext) → (ℚ → Ext) → Type 0
AreGrowingFor Sum f g = GrowsFromZero f × GrowsFromZero g
AreGrowingFor Min f g = GrowsFromZero f × GrowsFromZero g
AreGrowingFor Max f g = GrowsFromZero f × GrowsFromZero g
AreGrowingFor PosDiff f g = ⊥
AreGrowingFor (PosMinus l) f g = (zero_q ≤ℚ l) × GrowsFromZero f
AreGrowingFor (Scale q) f g = (zero_q ≤ℚ q) × GrowsFromZero f
AreGrowingFor (Shift x) f g = ⊥
AreGrowingFor RunSup f g = IsBoundedFromZero f
AreGrowingFor RunInf f g = StartsAtNothing f
AreGrowingFor (FifoLeft theta) f g = (Fin zero_q ≤ₑ theta) × IsFinite f
AreGrowingFor Convolve f g = GrowsFromZero f × GrowsFromZero g
AreGrowingFor Deconvolve f g = ⊥
AreGrowingFor Horizontal f g = ⊥
AreGrowingFor Vertical f g = ⊥
AreGrowingFor Itself f g = ⊥

-- where h has the answer at each time from 0 on, it grows from zero
abbrev pub AnswersGrow : Type 0
AnswersGrow = (op : OpKind) (f g h : ℚ → Ext) → AreGrowingFor op f g →
    ((t : ℚ) → zero_q ≤ℚ t → IsAnswer op f g t (h t)) → GrowsFromZero h
