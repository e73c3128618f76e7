use Rattle.std.proofs.Common.{◌≡◌, sym, ap, subst, ◌∙◌}
use Rattle.rational.specs.Rational.{◌+ℚ◌, ◌-ℚ◌, neg_ℚ}
use Rattle.rational.specs.Ratio.{SumFits}
use Rattle.rational.specs.Extended.{◌+ₑ◌}
use Rattle.rational.specs.declared.Extended.TheVariants.{Fin, Inf}
use Rattle.upp_curve.specs.Curve.{value_at}
use Rattle.upp_curve.specs.Steady.{rise_over}
use Rattle.upp_limits.specs.Periods.{own_period}
use Rattle.upp_normal.specs.Ahead.{IsTimeIn, GridValue}
use Rattle.curve_call.specs.Rises.{CurveRiseFits}
use Rattle.curve_lang.specs.Finding.{value_end}
use Rattle.curve_lang.proofs.ValueTimes.{value_sizes, past_steps, past_value, past_sum}
use Rattle.curve_lang.proofs.values.late_value.Goals as goal

pub difference-requires : goal.difference-requires
difference-requires c =
    subst (λ d. SumFits c.args.t (neg_ℚ d)) (sym c.requires.period) (past_steps c.args.f.now c.args.t c.requires.late).fits

pub stretch_at-requires : goal.stretch_at-requires
stretch_at-requires c =
    let f = c.args.f.now in
    let t = c.args.t in
    let p = past_steps f t c.requires.late in
    let z = value_sizes f t in
    let end = value_end f t in
    (z, end, p.window, subst (IsTimeIn z end) (sym (c.difference.ensures ∙ ap (λ d. t -ℚ d) c.requires.period)) p.earlier)

pub rise_over-requires : goal.rise_over-requires
rise_over-requires c =
    subst (CurveRiseFits c.args.f.now) (sym c.requires.period) (past_steps c.args.f.now c.args.t c.requires.late).rise.fits

pub sum-requires : goal.sum-requires
sum-requires c =
    let f = c.args.f.now in
    let t = c.args.t in
    let p = past_steps f t c.requires.late in
    let z = value_sizes f t in
    let end = value_end f t in
    let time = subst (IsTimeIn z end) (sym (c.difference.ensures ∙ ap (λ d. t -ℚ d) c.requires.period)) p.earlier in
    let g = subst (GridValue z) c.in-Fin.is (c.stretch_at.ensures.sizes z end p.window time).1 in
    subst (SumFits c.in-Fin.before) (sym (c.rise_over.ensures ∙ ap (rise_over f) c.requires.period)) (past_sum f t c.in-Fin.before p g)

pub returns-in-Inf : goal.returns-in-Inf
returns-in-Inf c =
    let f = c.args.f.now in
    let t = c.args.t in
    let p = past_steps f t c.requires.late in
    let u = c.difference.ensures ∙ ap (λ d. t -ℚ d) c.requires.period in
    let at : Inf ≡ value_at f (t -ℚ own_period f) = sym c.in-Inf.is ∙ c.stretch_at.ensures.goes.at ∙ ap (value_at f) u in
    sym (past_value f t c.requires.late.curve p ∙ ap (λ v. v +ₑ Fin (rise_over f (own_period f))) (sym at))

pub returns-in-Fin : goal.returns-in-Fin
returns-in-Fin c =
    let f = c.args.f.now in
    let t = c.args.t in
    let p = past_steps f t c.requires.late in
    let u = c.difference.ensures ∙ ap (λ d. t -ℚ d) c.requires.period in
    let at : Fin c.in-Fin.before ≡ value_at f (t -ℚ own_period f) = sym c.in-Fin.is ∙ c.stretch_at.ensures.goes.at ∙ ap (value_at f) u in
    let rise = c.rise_over.ensures ∙ ap (rise_over f) c.requires.period in
    ap Fin (c.sum.ensures ∙ ap (λ r. c.in-Fin.before +ℚ r) rise)
    ∙ sym (past_value f t c.requires.late.curve p ∙ ap (λ v. v +ₑ Fin (rise_over f (own_period f))) (sym at))
