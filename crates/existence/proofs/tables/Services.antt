-- The services of a priority queue and of a deficit round robin queue have answers.
use Rattle.std.specs.Prelude.{◌≡◌, ℕ, List, Ok, Err}
use Rattle.min_plus.specs.Functions.{IsFinite}
use Rattle.upp_curve.specs.Curve.{SpecCurve, value_at}
use Rattle.upp_curve.specs.Curves.{IsCurve}
use Rattle.upp_limits.specs.declared.op_kind.OpKind.TheVariants.{PosDiff, PosMinus, Scale, RunSup}
use Rattle.run_laws.specs.Cards.{whole}
use Rattle.curve_call.specs.Calls.{Applies, AppliesTo}
use Rattle.outcomes.specs.Calls.{goes_on, stops}
use Rattle.residuals.specs.calls.PriorityCalls.{LeavesPriority, MakesPriority}
use Rattle.residuals.specs.calls.DrrCalls.{share_in, owed_in, MakesDrr}
use Rattle.residuals.proofs.calls.PriorityCalls.{difference_finite, left_finite, left_nonneg}
use Rattle.residuals.proofs.calls.DrrCalls.{scaled_finite}
use Rattle.existence.specs.curves.Answered.{HasAnswer}
use Rattle.existence.specs.tables.Found.{CallsExist, ServicesExist}
use Rattle.existence.proofs.tables.InTurn.{in_turn}

left_curve : (β higher c : SpecCurve) (lower : ℕ) → LeavesPriority β higher lower (Ok c) → IsCurve c
left_curve β higher c lower (goes_on d first second) = second.made.curve
left_curve β higher c lower (stops fault a b) = absurd (let e : Ok c ≡ Err fault = b in cc)

left : CallsExist → (β higher : SpecCurve) (lower : ℕ) → IsCurve β → IsCurve higher → IsFinite (value_at β) → HasAnswer (LeavesPriority β higher lower)
left E β higher lower F G finite =
    in_turn (Applies PosDiff β higher) (AppliesTo (PosMinus (whole lower))) (E.pos_diff β higher F G finite)
    (λ d h. E.pos_minus (whole lower) d h.made.curve (difference_finite β higher d finite h.made))

pub by_priority : CallsExist → (β higher : SpecCurve) (lower : ℕ) → IsCurve β → IsCurve higher → IsFinite (value_at β) → HasAnswer (MakesPriority β higher lower)
by_priority E β higher lower F G finite =
    in_turn (LeavesPriority β higher lower) (AppliesTo RunSup) (left E β higher lower F G finite)
    (λ c h. E.run_sup c (left_curve β higher c lower h) (left_finite β higher c lower finite h) (left_nonneg β higher c lower h))

pub by_deficit : CallsExist → (β : SpecCurve) (quanta longest : List ℕ) (i : ℕ) → IsCurve β → IsFinite (value_at β) → HasAnswer (MakesDrr β quanta longest i)
by_deficit E β quanta longest i F finite =
    let q = share_in quanta i in
    let l = owed_in quanta longest i in
    in_turn (AppliesTo (Scale q) β) (AppliesTo (PosMinus l)) (E.scale q β F)
    (λ d h. E.pos_minus l d h.made.curve (scaled_finite q β d finite h.made))

pub services : ServicesExist
services E = record { priority = by_priority E; deficit = by_deficit E }
