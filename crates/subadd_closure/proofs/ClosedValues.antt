-- What is answered for a finite curve that is nowhere below 0 is its closure, and keeps its shape.
use Rattle.std.specs.Prelude.{Result, Ok, Err, IfOk}
use Rattle.rational.specs.Rational.{ℚ, ◌≤ℚ◌}
use Rattle.upp_limits.specs.declared.op_kind.OpFault.{OpFault}
use Rattle.upp_curve.specs.Curve.{SpecCurve, value_at}
use Rattle.min_plus.specs.Functions.{zero_q, IsFinite, IsNonnegative}
use Rattle.upp_curve.specs.Normal.{IsNormal}
use Rattle.min_plus.specs.Convolution.{IsSubadditiveClosure}
use Rattle.min_plus.specs.closure_laws.ClosureLaws.{ClosureKeeps}
use Rattle.min_plus.proofs.closure_laws.KeptShapes.{closures_keep}
use Rattle.subadd_closure.specs.Folds.{CloseAnswer}
use Rattle.subadd_closure.proofs.FoldStars.{close_answer}

module _ (f : SpecCurve) (normal : IsNormal f) (finite : IsFinite (value_at f)) (nonneg : IsNonnegative (value_at f)) where
  pub closed_value : (r : Result SpecCurve OpFault) → CloseAnswer f r
      → IfOk r (λ h. (t : ℚ) → zero_q ≤ℚ t → IsSubadditiveClosure (value_at f) t (value_at h t))
  closed_value (Ok h) answer = λ t low. close_answer f h t normal finite nonneg answer low
  closed_value (Err e) answer = tt

  pub closed_keeps : (r : Result SpecCurve OpFault) → CloseAnswer f r → IfOk r (λ h. ClosureKeeps (value_at f) (value_at h))
  closed_keeps (Ok h) answer =
      closures_keep (value_at f) (value_at h) (λ t low. close_answer f h t normal finite nonneg answer low)
  closed_keeps (Err e) answer = tt
