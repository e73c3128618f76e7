use Rattle.std.proofs.Common.{pos, sym, subst, ap₂, ◌∙◌}
use Rattle.rational.specs.Rational.{ℚ, ◌+ℚ◌, ◌-ℚ◌, ◌<ℚ◌, int, neg_ℚ}
use Rattle.rational.specs.Ratio.{SumFits}
use Rattle.upp_curve.specs.Steady.{rise_over}
use Rattle.upp_normal.specs.Ahead.{AnswerValue}
use Rattle.upp_normal.proofs.AnswerRoom.{value_difference_stands}
use Rattle.curve_call.proofs.LeastNumber.{lead_is, rise_small, lead_fits}
use Rattle.curve_call.proofs.least.lead_over.Goals as goal

pub rise_of-requires : goal.rise_of-requires
rise_of-requires c =
    let w = c.requires.window in
    rise_small w.0 (c.args.from +ℚ c.args.period) (rise_over c.args.fast.now c.args.period) w.1.limited
    (lead_is w.0 c.args.from c.args.period c.args.slow.now c.args.fast.now c.requires.slower w.1 c.requires.first c.requires.second).second

pub rise_of-requires-2 : goal.rise_of-requires-2
rise_of-requires-2 c =
    let w = c.requires.window in
    rise_small w.0 (c.args.from +ℚ c.args.period) (rise_over c.args.slow.now c.args.period) w.1.limited
    (lead_is w.0 c.args.from c.args.period c.args.slow.now c.args.fast.now c.requires.slower w.1 c.requires.first c.requires.second).first

pub difference-requires : goal.difference-requires
difference-requires c =
    let w = c.requires.window in
    let L = lead_is w.0 c.args.from c.args.period c.args.slow.now c.args.fast.now c.requires.slower w.1 c.requires.first c.requires.second in
    subst (λ x. SumFits x (neg_ℚ c.rise_of-2.result)) (sym c.rise_of.ensures)
    (subst (λ y. SumFits (rise_over c.args.fast.now c.args.period) (neg_ℚ y)) (sym c.rise_of-2.ensures)
    (lead_fits w.0 (c.args.from +ℚ c.args.period) (rise_over c.args.fast.now c.args.period) (rise_over c.args.slow.now c.args.period) w.1.limited L.second L.first))

pub returns-clause-value : goal.returns-clause-value
returns-clause-value c = c.difference.ensures ∙ ap₂ (λ (x y : ℚ). x -ℚ y) c.rise_of.ensures c.rise_of-2.ensures

pub returns-clause-some : goal.returns-clause-some
returns-clause-some c =
    let w = c.requires.window in
    let L = lead_is w.0 c.args.from c.args.period c.args.slow.now c.args.fast.now c.requires.slower w.1 c.requires.first c.requires.second in
    subst (λ y. int (pos 0) <ℚ y) (sym (returns-clause-value c)) L.some

pub returns-clause-sizes : goal.returns-clause-sizes
returns-clause-sizes c = λ z C.
    let L = lead_is z c.args.from c.args.period c.args.slow.now c.args.fast.now c.requires.slower C c.requires.first c.requires.second in
    subst (AnswerValue z 6) (sym (returns-clause-value c)) (value_difference_stands z (rise_over c.args.fast.now c.args.period) (rise_over c.args.slow.now c.args.period) L.second L.first)
