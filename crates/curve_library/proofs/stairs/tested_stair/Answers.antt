use Rattle.std.proofs.Common.{subst, sym, ap, ◌∙◌, pos}
use Rattle.rational.specs.Rational.{int, ◌≤ℚ◌, ◌<ℚ◌}
use Rattle.rational.proofs.Laws.{not_le_of_lt}
use Rattle.min_plus.specs.Functions.{zero_q}
use Rattle.upp_curve.specs.Kinds.{bucket, stair}
use Rattle.curve_library.specs.Causes.{KeepsOwnLimits}
use Rattle.curve_library.proofs.Answering.{causes_of}
use Rattle.curve_library.proofs.SignTests.{nonneg_out, nonpos_out, positive_out}
use Rattle.curve_library.proofs.StairParts.{no_packet}
use Rattle.curve_library.proofs.stairs.tested_stair.Goals as goal

pub returns-then-not-is_positive : goal.returns-then-not-is_positive
returns-then-not-is_positive c =
    let J = nonneg_out c.is_negative.result c.args.jitter c.is_negative.ensures c.if-is_negative.false in
    (λ h. not_le_of_lt h J, nonpos_out c.is_positive.result c.args.period c.is_positive.ensures c.if-not-is_positive.true)

pub returns-then-packet-eq0 : goal.returns-then-packet-eq0
returns-then-packet-eq0 c =
    let J = c.args.jitter in
    let P = c.args.period in
    let low = nonneg_out c.is_negative.result J c.is_negative.ensures c.if-is_negative.false in
    let some = positive_out c.is_positive.result P c.is_positive.ensures c.if-not-is_positive.false in
    let e = ap (λ x. bucket zero_q x) c.zero.ensures ∙ no_packet P J ∙ ap (λ n. stair (int (pos n)) P J) (sym c.if-packet-eq0.true) in
    causes_of (J <ℚ zero_q) (P ≤ℚ zero_q) (stair (int (pos c.args.packet)) P J) c.straight.result record { nonneg = λ h. not_le_of_lt h low; period = λ h. not_le_of_lt some h }
    (subst (λ k. KeepsOwnLimits k c.straight.result) e c.straight.ensures)

pub stair_steps-requires-clause-jitter : goal.stair_steps-requires-clause-jitter
stair_steps-requires-clause-jitter c = nonneg_out c.is_negative.result c.args.jitter c.is_negative.ensures c.if-is_negative.false

pub returns : goal.returns
returns c =
    let J = c.args.jitter in
    let P = c.args.period in
    let low = nonneg_out c.is_negative.result J c.is_negative.ensures c.if-is_negative.false in
    let some = positive_out c.is_positive.result P c.is_positive.ensures c.if-not-is_positive.false in
    causes_of (J <ℚ zero_q) (P ≤ℚ zero_q) (stair (int (pos c.args.packet)) P J) c.stair_steps.result record { nonneg = λ h. not_le_of_lt h low; period = λ h. not_le_of_lt some h }
    c.stair_steps.ensures
