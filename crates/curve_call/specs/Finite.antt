-- When each kind of call has finite answers. A curve is finite where each of its values from 0 on is, so that a
-- finite answer at each time is all that there is to it. (Own choice.)
use Rattle.std.specs.Prelude.{◌⊎◌}
use Rattle.rational.specs.Rational.{ℚ, ◌≤ℚ◌}
use Rattle.rational.specs.Extended.{Ext, ◌≤ₑ◌}
use Rattle.rational.specs.declared.Extended.TheVariants.{Fin, Inf}
use Rattle.upp_limits.specs.declared.op_kind.OpKind.{OpKind}
use Rattle.upp_limits.specs.declared.op_kind.OpKind.TheVariants.{Sum, Min, Max, PosDiff, PosMinus, Scale, Shift, RunSup, RunInf, FifoLeft, Convolve, Deconvolve, Horizontal, Vertical, Itself}
use Rattle.min_plus.specs.Functions.{zero_q, IsFinite}
use Rattle.curve_call.specs.Answers.{IsAnswer}

-- up to each time it is at most some number
abbrev pub IsBounded : (ℚ → Ext) → Type 0
IsBounded f = (t : ℚ) → zero_q ≤ℚ t → (level : ℚ) × ((s : ℚ) → zero_q ≤ℚ s → s ≤ℚ t → f s ≤ₑ Fin level)

-- what finite answers need of the operands f and g: of a minimum one finite operand, of a difference and of what first
-- in, first out leaves only the first one; a finite function may have an infinite running supremum, and a
-- deconvolution may be infinite whatever the operands
abbrev pub AreFiniteFor : OpKind → (ℚ → Ext) → (ℚ → Ext) → Type 0
AreFiniteFor Sum f g = IsFinite f × IsFinite g
AreFiniteFor Min f g = IsFinite f ⊎ IsFinite g
AreFiniteFor Max f g = IsFinite f × IsFinite g
AreFiniteFor PosDiff f g = IsFinite f
AreFiniteFor (PosMinus l) f g = IsFinite f
AreFiniteFor (Scale q) f g = IsFinite f
AreFiniteFor (Shift Inf) f g = ⊥
AreFiniteFor (Shift (Fin x)) f g = (zero_q ≤ℚ x) × IsFinite f
AreFiniteFor RunSup f g = IsBounded f
AreFiniteFor RunInf f g = IsFinite f
AreFiniteFor (FifoLeft theta) f g = IsFinite f
AreFiniteFor Convolve f g = IsFinite f × IsFinite g
AreFiniteFor Deconvolve f g = ⊥
AreFiniteFor Horizontal f g = ⊥
AreFiniteFor Vertical f g = ⊥
AreFiniteFor Itself f g = ⊥

-- where h has the answer at each time from 0 on, it is finite
abbrev pub AnswersAreFinite : Type 0
AnswersAreFinite = (op : OpKind) (f g h : ℚ → Ext) → AreFiniteFor op f g →
    ((t : ℚ) → zero_q ≤ℚ t → IsAnswer op f g t (h t)) → IsFinite h
