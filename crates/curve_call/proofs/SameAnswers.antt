-- The answer of each kind at a time is one, so one call makes at most one curve.
use Rattle.std.proofs.Common.{◌≡◌, sym, ◌∙◌}
use Rattle.rational.specs.Rational.{ℚ}
use Rattle.rational.specs.Extended.{Ext}
use Rattle.rational.specs.declared.Extended.TheVariants.{Fin, Inf}
use Rattle.rational.proofs.Bounds.{infimum_unique, supremum_unique}
use Rattle.upp_limits.specs.declared.op_kind.OpKind.{OpKind}
use Rattle.upp_limits.specs.declared.op_kind.OpKind.TheVariants.{Sum, Min, Max, PosDiff, PosMinus, Scale, Shift, RunSup, RunInf, FifoLeft, Convolve, Deconvolve, Horizontal, Vertical, Itself}
use Rattle.upp_curve.specs.Curve.{SpecCurve, value_at}
use Rattle.upp_curve.proofs.OneForm.{normal_unique}
use Rattle.curve_call.specs.Answers.{IsAnswer, IsMadeBy}

pub answer_unique : (op : OpKind) (f g : ℚ → Ext) (t : ℚ) (v w : Ext) → IsAnswer op f g t v → IsAnswer op f g t w → v
    ≡ w
answer_unique Sum f g t v w h k = h ∙ sym k
answer_unique Min f g t v w h k = h ∙ sym k
answer_unique Max f g t v w h k = h ∙ sym k
answer_unique PosDiff f g t v w h k = h ∙ sym k
answer_unique (PosMinus l) f g t v w h k = h ∙ sym k
answer_unique (Scale q) f g t v w h k = h ∙ sym k
answer_unique (Shift x) f g t v w h k = h ∙ sym k
answer_unique RunSup f g t v w h k = supremum_unique _ v w h k
answer_unique RunInf f g t v w h k = infimum_unique _ v w h k
answer_unique (FifoLeft Inf) f g t v w h k = h ∙ sym k
answer_unique (FifoLeft (Fin theta)) f g t v w h k = infimum_unique _ v w h k
answer_unique Convolve f g t v w h k = infimum_unique _ v w h k
answer_unique Deconvolve f g t v w h k = supremum_unique _ v w h k
answer_unique Horizontal f g t v w h k = absurd h
answer_unique Vertical f g t v w h k = absurd h
answer_unique Itself f g t v w h k = absurd h

pub made_unique : (op : OpKind) (f g h k : SpecCurve) → IsMadeBy op f g h → IsMadeBy op f g k → h ≡ k
made_unique op f g h k a b =
    normal_unique h k a.curve.normal b.curve.normal
    (λ t p. answer_unique op (value_at f) (value_at g) t (value_at h t) (value_at k t) (a.answers t p) (b.answers t p))
