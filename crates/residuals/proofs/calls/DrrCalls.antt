-- What the two calls make: the service of a deficit round robin queue.
use Rattle.std.specs.Prelude.{◌≡◌, ℕ, List, Result, Ok, Err, IfOk}
use Rattle.std.proofs.Common.{ap, ◌∙◌, subst}
use Rattle.std.proofs.lemmas.List.Elements.{All-get_or}
use Rattle.rational.specs.Rational.{ℚ, ◌*ℚ◌}
use Rattle.rational.specs.Extended.{Ext}
use Rattle.rational.specs.declared.Extended.TheVariants.{Fin}
use Rattle.upp_limits.specs.declared.op_kind.OpKind.TheVariants.{Scale, PosMinus}
use Rattle.upp_limits.specs.declared.op_kind.OpFault.{OpFault}
use Rattle.upp_curve.specs.Curve.{SpecCurve, value_at}
use Rattle.upp_curve.specs.Curves.{IsCurve}
use Rattle.min_plus.specs.Functions.{IsFinite}
use Rattle.min_plus.specs.Pointwise.{excess, scaled}
use Rattle.plain_operators.specs.CurveCalls.{IsMadeBy, AppliesTo}
use Rattle.outcomes.specs.Calls.{goes_on, stops}
use Rattle.plain_operators.proofs.CurveCalls.{applies_determined}
use Rattle.outcomes.proofs.Calls.{then_determined}
use Rattle.residuals.specs.calls.DrrCalls.{IsQuantum, share_in, owed_in, MakesDrr, DrrCurveServes, DrrIsDetermined}
use Rattle.residual_laws.specs.DrrLaws.{IsDrrService}
use Rattle.residual_laws.proofs.DrrLaw.{drr_serves}

pub scaled_finite : (q : ℚ) (f c : SpecCurve) → IsFinite (value_at f) → IsMadeBy (Scale q) f f c → IsFinite (value_at c)
scaled_finite q f c finite made t p =
    let level = finite t p in
    (q *ℚ level.0, made.answers t p ∙ ap (scaled q) level.1)

-- the two calls by the numbers that the code has
pub made : (β d : SpecCurve) (quanta longest : List ℕ) (i : ℕ) (q l : ℚ) (r : Result SpecCurve OpFault)
    → q ≡ share_in quanta i → l ≡ owed_in quanta longest i → AppliesTo (Scale q) β (Ok d) → AppliesTo (PosMinus l) d
    r → MakesDrr β quanta longest i r
made β d quanta longest i q l r e f first second =
    goes_on d (subst (λ (x : ℚ). AppliesTo (Scale x) β (Ok d)) e first) (subst (λ (x : ℚ). AppliesTo (PosMinus x) d
    r) f second)

pub service_is : (β c : SpecCurve) (quanta longest : List ℕ) (i : ℕ) → MakesDrr β quanta longest i (Ok c)
    → IsDrrService (value_at β) quanta longest i (value_at c)
service_is β c quanta longest i (goes_on d first second) t p =
    second.made.answers t p ∙ ap (λ (v : Ext). excess v (Fin (owed_in quanta longest i))) (first.made.answers t p)
service_is β c quanta longest i (stops fault a b) t p = absurd (let e : Ok c ≡ Err fault = b in cc)

pub made_curve : (β c : SpecCurve) (quanta longest : List ℕ) (i : ℕ) → MakesDrr β quanta longest i (Ok c) → IsCurve c
made_curve β c quanta longest i (goes_on d first second) = second.made.curve
made_curve β c quanta longest i (stops fault a b) = absurd (let e : Ok c ≡ Err fault = b in cc)

pub ok_service : (β : SpecCurve) (quanta longest : List ℕ) (i : ℕ) (r : Result SpecCurve OpFault) → MakesDrr β quanta
    longest i r
    → IfOk r (λ c. IsDrrService (value_at β) quanta longest i (value_at c))
ok_service β quanta longest i (Ok c) made = service_is β c quanta longest i made
ok_service β quanta longest i (Err fault) made = tt

pub curve_serves : DrrCurveServes
curve_serves server end view quanta longest i β c queues among made lawful drr sizes service flat =
    drr_serves server end view quanta longest i (value_at β) (value_at c) lawful drr queues.paired among
    (All-get_or IsQuantum quanta i 0 among queues.each).0 sizes service flat (service_is β c quanta longest i made)

pub is_determined : DrrIsDetermined
is_determined β quanta longest i =
    then_determined (AppliesTo (Scale (share_in quanta i)) β) (AppliesTo (PosMinus (owed_in quanta longest i)))
    (applies_determined.answer (Scale (share_in quanta i)) β β)
    (λ d. applies_determined.answer (PosMinus (owed_in quanta longest i)) d d)
