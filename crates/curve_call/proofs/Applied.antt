-- What an operator's contract says of its answer makes it the answer of a call of its kind.
use Rattle.std.specs.Prelude.{◌≡◌, Result, Ok, Err, IfOk}
use Rattle.rational.specs.Rational.{ℚ, ◌≤ℚ◌}
use Rattle.upp_limits.specs.declared.op_kind.OpKind.{OpKind}
use Rattle.upp_limits.specs.declared.op_kind.OpFault.{OpFault}
use Rattle.upp_curve.specs.Curve.{SpecCurve, value_at}
use Rattle.upp_curve.specs.Curves.{IsCurve}
use Rattle.min_plus.specs.Functions.{zero_q}
use Rattle.upp_limits.specs.Outcome.{KeepsLimits}
use Rattle.curve_call.specs.Answers.{IsAnswer}
use Rattle.curve_call.specs.Calls.{Applies}

-- the operator's value clause, its limits clause, and what the type of a curve keeps
pub applied : (op : OpKind) (f g : SpecCurve) (r : Result SpecCurve OpFault)
    → IfOk r (λ c. (t : ℚ) → zero_q ≤ℚ t → IsAnswer op (value_at f) (value_at g) t (value_at c t))
    → KeepsLimits op f g r → IfOk r IsCurve → Applies op f g r
applied op f g (Ok c) value limits kept = record { within = limits; made = record { curve = kept; answers = value } }
applied op f g (Err fault) value limits kept = limits

-- the same of an answer that `intact` hands on
pub applied_seen : (op : OpKind) (f g : SpecCurve) (r s : Result SpecCurve OpFault) → s ≡ r
    → IfOk r (λ c. (t : ℚ) → zero_q ≤ℚ t → IsAnswer op (value_at f) (value_at g) t (value_at c t))
    → KeepsLimits op f g r → IfOk s IsCurve → Applies op f g s
applied_seen op f g r s same value limits kept = rw same (applied op f g r value limits (rw same at kept))

-- what holds anyway holds where there is an answer
pub if_ok : {A E : Type 0} {P : Type 0} (r : Result A E) → P → IfOk r (λ _. P)
if_ok (Ok x) h = h
if_ok (Err e) h = tt
