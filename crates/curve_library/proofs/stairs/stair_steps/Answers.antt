use Rattle.std.proofs.Common.{arith, subst, sym, ap, ◌∙◌, ◌<◌, ◌*◌, ◌^◌, suc, pos}
use Rattle.rational.specs.Rational.{int, ◌*ℚ◌, ◌≤ℚ◌}
use Rattle.min_plus.specs.Functions.{zero_q}
use Rattle.upp_curve.specs.Normal.{IsNormal}
use Rattle.curve_library.specs.Causes.{KeepsOwnLimits}
use Rattle.curve_library.proofs.StairParts.{steps_same, is_steps, steps_normal, late_low, stair_wide, first_of, late_of}
use Rattle.curve_library.proofs.stairs.stair_steps.Goals as goal

pub returns-in_default : goal.returns-in_default
returns-in_default c = stair_wide c.args.packet c.args.period c.args.jitter c.requires.packet c.requires.period c.requires.jitter (λ F. c.in_default.ensures F.shares)

pub returns-in-None : goal.returns-in-None
returns-in-None c =
    stair_wide c.args.packet c.args.period c.args.jitter c.requires.packet c.requires.period c.requires.jitter (λ F.
    let f = subst (λ n. c.args.packet * suc n < 2 ^ 127) (sym c.in-Some.ensures.count) F.first in
    let h = c.in-None.ensures in
    omega (arith, f, h))

pub formed_steps-requires-clause-normal : goal.formed_steps-requires-clause-normal
formed_steps-requires-clause-normal c =
    let l = c.args.packet in
    let P = c.args.period in
    let J = c.args.jitter in
    let e = steps_same c.whole.result (int (pos l)) P c.in-Some-packets.first (first_of l P J) c.in-Some.share.rest (late_of P J) (c.whole.ensures ∙ ap (λ n. int (pos n)) c.from.ensures)
    (c.in-Some-packets.ensures ∙ ap (λ n. int (pos l) *ℚ int (pos (suc n))) c.in-Some.ensures.count) c.in-Some.ensures.rest in
    subst IsNormal (sym e) (steps_normal l P J c.requires.packet c.requires.period c.requires.jitter)

pub formed_steps-requires-clause-late : goal.formed_steps-requires-clause-late
formed_steps-requires-clause-late c = subst (λ x. zero_q ≤ℚ x) (sym c.in-Some.ensures.rest) (late_low c.args.period c.args.jitter c.requires.period c.requires.jitter)

pub returns-in-Some-packets : goal.returns-in-Some-packets
returns-in-Some-packets c =
    let l = c.args.packet in
    let P = c.args.period in
    let J = c.args.jitter in
    let e = steps_same c.whole.result (int (pos l)) P c.in-Some-packets.first (first_of l P J) c.in-Some.share.rest (late_of P J) (c.whole.ensures ∙ ap (λ n. int (pos n)) c.from.ensures)
    (c.in-Some-packets.ensures ∙ ap (λ n. int (pos l) *ℚ int (pos (suc n))) c.in-Some.ensures.count) c.in-Some.ensures.rest in
    subst (λ k. KeepsOwnLimits k c.formed_steps.result) (e ∙ is_steps l P J c.requires.packet) c.formed_steps.ensures
