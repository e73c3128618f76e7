use Rattle.std.proofs.Common.{subst, sym}
use Rattle.upp_limits.specs.Limits.{joined, curve_numbers}
use Rattle.upp_limits.specs.Sized.{HeldBy}
use Rattle.upp_limits.specs.Gathered.{Gathers}
use Rattle.upp_limits.specs.ClosedForm.{closed_numbers}
use Rattle.upp_limits.specs.Gauges.{scaled_curve, operand_numbers}
use Rattle.upp_limits.specs.ClosedOperands.{closed_operands}
use Rattle.upp_limits.proofs.JoinedNumbers.{joined_assoc}
use Rattle.upp_limits.proofs.SpanNumbers.{if_some_map}
use Rattle.upp_limits.proofs.Operands.{held_left, held_right}
use Rattle.upp_limits.proofs.operand_numbers.with_operands.Goals as goal

pub returns-in-Some-clause-value : goal.returns-in-Some-clause-value
returns-in-Some-clause-value c =
    let e = c.args.end in
    let f = c.args.f.now in
    let g = c.args.other.now in
    if_some_map c.with_one-in-Some.result _ _
    (λ r w n h.
    subst (λ k. Gathers r (joined n (closed_operands k e f g))) (sym c.in-Both.is)
    (subst (Gathers r) (joined_assoc n (closed_numbers e f) (closed_numbers e g)) (w (joined n (closed_numbers e f)) (c.in-Some.ensures.value n h))))
    c.with_one-in-Some.ensures.value

pub returns-in-Some-clause-fits : goal.returns-in-Some-clause-fits
returns-in-Some-clause-fits c = λ z h.
    let e = c.args.end in
    let f = c.args.f.now in
    let g = c.args.other.now in
    c.with_one-in-Some.ensures.fits z (held_right z e (curve_numbers e f) (curve_numbers e g) (subst (λ k. HeldBy z e (operand_numbers k e f g)) c.in-Both.is h))

pub returns-in-None-clause-fits : goal.returns-in-None-clause-fits
returns-in-None-clause-fits c = λ z h.
    let e = c.args.end in
    let f = c.args.f.now in
    let g = c.args.other.now in
    c.in-None.ensures.fits z (held_left z e (curve_numbers e f) (curve_numbers e g) (subst (λ k. HeldBy z e (operand_numbers k e f g)) c.in-Both.is h))

pub returns-in-Some-with_one-clause-value : goal.returns-in-Some-with_one-clause-value
returns-in-Some-with_one-clause-value c =
    let e = c.args.end in
    let f = c.args.f.now in
    let g = c.args.other.now in
    let k = closed_numbers e (scaled_curve c.in-FirstScaled.factor f) in
    if_some_map c.with_factor.result _ _
    (λ r w n h.
    subst (λ o. Gathers r (joined n (closed_operands o e f g))) (sym c.in-FirstScaled.is)
    (subst (Gathers r) (joined_assoc n (closed_numbers e f) k) (w (joined n (closed_numbers e f)) (c.in-Some-with_one.ensures.value n h))))
    c.with_factor.ensures.value

pub returns-in-Some-with_one-clause-fits : goal.returns-in-Some-with_one-clause-fits
returns-in-Some-with_one-clause-fits c = λ z h.
    let e = c.args.end in
    let f = c.args.f.now in
    let g = c.args.other.now in
    c.with_factor.ensures.fits z
    (held_right z e (curve_numbers e f) (curve_numbers e (scaled_curve c.in-FirstScaled.factor f)) (subst (λ k. HeldBy z e (operand_numbers k e f g)) c.in-FirstScaled.is h))

pub returns-in-None-with_one-clause-fits : goal.returns-in-None-with_one-clause-fits
returns-in-None-with_one-clause-fits c = λ z h.
    let e = c.args.end in
    let f = c.args.f.now in
    let g = c.args.other.now in
    c.in-None-with_one.ensures.fits z
    (held_left z e (curve_numbers e f) (curve_numbers e (scaled_curve c.in-FirstScaled.factor f)) (subst (λ k. HeldBy z e (operand_numbers k e f g)) c.in-FirstScaled.is h))
