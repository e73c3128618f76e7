-- What the three calls make: a finite curve that is nowhere below 0, its running supremum, and so the service of a
-- priority queue.
use Rattle.std.specs.Prelude.{◌≡◌, ℕ, Result, Ok, Err, IfOk}
use Rattle.std.proofs.Common.{sym, ap, ◌∙◌, subst}
use Rattle.rational.specs.Rational.{ℚ, ◌≤ℚ◌}
use Rattle.rational.specs.Extended.{Ext, ◌≤ₑ◌}
use Rattle.rational.specs.declared.Extended.TheVariants.{Fin}
use Rattle.rational.proofs.Bounds.{same_supremum}
use Rattle.rational.proofs.ExtendedOrder.{same_le_ext}
use Rattle.upp_limits.specs.declared.op_kind.OpKind.TheVariants.{PosDiff, PosMinus, RunSup}
use Rattle.upp_limits.specs.declared.op_kind.OpFault.{OpFault}
use Rattle.upp_curve.specs.Curve.{SpecCurve, value_at}
use Rattle.upp_curve.specs.Curves.{IsCurve}
use Rattle.min_plus.specs.Functions.{zero_q, UpTo, IsFinite, IsNonnegative}
use Rattle.min_plus.specs.Pointwise.{excess}
use Rattle.run_laws.specs.Cards.{whole}
use Rattle.plain_operators.specs.CurveCalls.{IsMadeBy, Applies, AppliesTo}
use Rattle.outcomes.specs.Calls.{goes_on, stops}
use Rattle.plain_operators.proofs.CurveCalls.{finite_excess, excess_nonneg, applies_determined}
use Rattle.outcomes.proofs.Calls.{then_determined}
use Rattle.residuals.specs.calls.PriorityCalls.{LeavesPriority, MakesPriority, PriorityCurveServes, PriorityIsDetermined}
use Rattle.residual_laws.specs.PriorityLaws.{priority_left, IsPriorityService}
use Rattle.residual_laws.proofs.PriorityLaw.{priority_serves}

-- ---- excesses
pub difference_finite : (f g d : SpecCurve) → IsFinite (value_at f) → IsMadeBy PosDiff f g d → IsFinite (value_at d)
difference_finite f g d finite made t p =
    let level = finite t p in
    let found = finite_excess (value_at f t) (value_at g t) level.0 level.1 in
    (found.0, made.answers t p ∙ found.1)

pub above_finite : (l : ℚ) (f c : SpecCurve) → IsFinite (value_at f) → IsMadeBy (PosMinus l) f f c → IsFinite
    (value_at c)
above_finite l f c finite made t p =
    let level = finite t p in
    let found = finite_excess (value_at f t) (Fin l) level.0 level.1 in
    (found.0, made.answers t p ∙ found.1)

pub above_nonneg : (l : ℚ) (f c : SpecCurve) → IsMadeBy (PosMinus l) f f c → IsNonnegative (value_at c)
above_nonneg l f c made t p = subst (λ (v : Ext). Fin zero_q ≤ₑ v) (sym (made.answers t p)) (excess_nonneg (value_at
    f t) (Fin l))

-- ---- what is left by the first two calls
pub left_finite : (β higher c : SpecCurve) (lower : ℕ) → IsFinite (value_at β) → LeavesPriority β higher lower (Ok c)
    → IsFinite (value_at c)
left_finite β higher c lower finite (goes_on d first second) =
    above_finite (whole lower) d c (difference_finite β higher d finite first.made) second.made
left_finite β higher c lower finite (stops fault a b) = absurd (let e : Ok c ≡ Err fault = b in cc)

pub left_nonneg : (β higher c : SpecCurve) (lower : ℕ) → LeavesPriority β higher lower (Ok c) → IsNonnegative
    (value_at c)
left_nonneg β higher c lower (goes_on d first second) = above_nonneg (whole lower) d c second.made
left_nonneg β higher c lower (stops fault a b) = absurd (let e : Ok c ≡ Err fault = b in cc)

pub left_is : (β higher c : SpecCurve) (lower : ℕ) → LeavesPriority β higher lower (Ok c)
    → (t : ℚ) → zero_q ≤ℚ t → value_at c t ≡ priority_left (value_at β) (value_at higher) lower t
left_is β higher c lower (goes_on d first second) t p =
    second.made.answers t p ∙ ap (λ (v : Ext). excess v (Fin (whole lower))) (first.made.answers t p)
left_is β higher c lower (stops fault a b) t p = absurd (let e : Ok c ≡ Err fault = b in cc)

-- ---- the service
pub service_is : (β higher c : SpecCurve) (lower : ℕ) → MakesPriority β higher lower (Ok c)
    → IsPriorityService (value_at β) (value_at higher) lower (value_at c)
service_is β higher c lower (goes_on left first second) t p =
    same_supremum (λ (s : UpTo t). value_at left s.at) (λ (s : UpTo t). priority_left (value_at β) (value_at higher)
    lower s.at) (value_at c t)
    (λ s. (s, same_le_ext (left_is β higher left lower first s.at s.nonneg)))
    (λ s. (s, same_le_ext (sym (left_is β higher left lower first s.at s.nonneg))))
    (second.made.answers t p)
service_is β higher c lower (stops fault a b) t p = absurd (let e : Ok c ≡ Err fault = b in cc)

pub made_curve : (β higher c : SpecCurve) (lower : ℕ) → MakesPriority β higher lower (Ok c) → IsCurve c
made_curve β higher c lower (goes_on left first second) = second.made.curve
made_curve β higher c lower (stops fault a b) = absurd (let e : Ok c ≡ Err fault = b in cc)

pub ok_service : (β higher : SpecCurve) (lower : ℕ) (r : Result SpecCurve OpFault) → MakesPriority β higher lower r
    → IfOk r (λ c. IsPriorityService (value_at β) (value_at higher) lower (value_at c))
ok_service β higher lower (Ok c) made = service_is β higher c lower made
ok_service β higher lower (Err fault) made = tt

pub curve_serves : PriorityCurveServes
curve_serves server end view queues i lower β higher c made lawful priority service flat keeps sizes =
    priority_serves server end view queues i lower (value_at β) (value_at higher) (value_at c) lawful priority
    service flat keeps sizes
    (service_is β higher c lower made)

pub is_determined : PriorityIsDetermined
is_determined β higher lower =
    then_determined (LeavesPriority β higher lower) (AppliesTo RunSup)
    (then_determined (Applies PosDiff β higher) (AppliesTo (PosMinus (whole lower))) (applies_determined.answer
    PosDiff β higher)
    (λ d. applies_determined.answer (PosMinus (whole lower)) d d))
    (λ c. applies_determined.answer RunSup c c)
