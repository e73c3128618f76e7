use Rattle.std.proofs.Common.{◌≡◌, pos, sym, subst, ap, ap₂, ◌∙◌, refl, true≢false}
use Rattle.rational.specs.Rational.{ℚ, ◌-ℚ◌, ◌/ℚ◌, ◌<ℚ◌, int}
use Rattle.rational.specs.Ratio.{IsSmall}
use Rattle.rational.specs.Gauge.{size_up}
use Rattle.rational.proofs.Laws.{not_zero}
use Rattle.upp_curve.specs.Steady.{rise_over}
use Rattle.curve_call.specs.Bounds.{own_or}
use Rattle.plain_operators.proofs.running.LeastBehind.{first_fits, lead_fits}
use Rattle.plain_operators.proofs.running.MostBehind.{own_fits, most_fits, most_number, number_bounded, number_none}
use Rattle.plain_operators.proofs.running.behind.behind_bounds.Goals.{After-rise_over-most}
use Rattle.plain_operators.proofs.running.behind.behind_bounds.Goals as goal

pub rises_apart-lead-requires : goal.rises_apart-lead-requires
rises_apart-lead-requires c =
    let f = c.args.beta.now in let g = c.args.cross.now in let w = c.args.first.now in
    let rises = first_fits f g c.args.theta w c.requires in
    record { left = rises.0; right = rises.1; apart = lead_fits f g c.args.theta w c.requires }

pub returns-then-not-is_less : goal.returns-then-not-is_less
returns-then-not-is_less c =
    number_none c.args.beta.now c.args.cross.now c.args.theta c.args.first.now record { low = 0; high = 0 } c.requires
    (λ h. true≢false (sym (c.if-not-is_less.ensures.less.1 (subst (λ y. y <ℚ c.rises_apart-lead.result) (sym c.zero.ensures) (subst (λ y. int (pos 0) <ℚ y) (sym c.rises_apart-lead.ensures) h))))) refl refl

pub rise_over-most-requires : goal.rise_over-most-requires
rise_over-most-requires c = own_fits c.args.beta.now c.args.cross.now c.args.theta c.period_or.result c.args.first.now c.requires c.period_or.ensures

pub quotient-requires-clause-some : goal.quotient-requires-clause-some
quotient-requires-clause-some c = not_zero c.rises_apart-lead.result (subst (λ y. y <ℚ c.rises_apart-lead.result) c.zero.ensures (c.if-not-is_less.ensures.less.0 refl))

-- the rise over a period of its own
most : (c : After-rise_over-most) → c.rise_over-most.result ≡ rise_over c.args.beta.now (own_or c.args.first.now.period c.args.beta.now)
most c = c.rise_over-most.ensures ∙ ap (rise_over c.args.beta.now) c.period_or.ensures

-- the service gains
gain : (c : After-rise_over-most) → int (pos 0) <ℚ rise_over c.args.beta.now c.args.first.now.period -ℚ rise_over c.args.cross.now c.args.first.now.period
gain c = subst (λ y. int (pos 0) <ℚ y) c.rises_apart-lead.ensures (subst (λ y. y <ℚ c.rises_apart-lead.result) c.zero.ensures (c.if-not-is_less.ensures.less.0 refl))

pub quotient-requires-clause-fits : goal.quotient-requires-clause-fits
quotient-requires-clause-fits c =
    let f = c.args.beta.now in let g = c.args.cross.now in let w = c.args.first.now in
    let here = (goal.at.quotient-requires-clause-fits c).After-rise_over-most in
    subst (λ y. IsSmall (c.rise_over-most.result /ℚ y)) (sym c.rises_apart-lead.ensures)
    (subst (λ x. IsSmall (x /ℚ (rise_over f w.period -ℚ rise_over g w.period))) (sym (most here)) (most_fits f g c.args.theta w c.requires (gain here)))

pub returns : goal.returns
returns c =
    let f = c.args.beta.now in let g = c.args.cross.now in let w = c.args.first.now in
    let here = (goal.at.returns c).After-rise_over-most in
    number_bounded f g c.args.theta w record { low = 0; high = c.size_up.result } c.requires refl
    (most_number (rise_over f (own_or w.period f)) (rise_over f w.period -ℚ rise_over g w.period) c.size_up.result (gain here)
    (c.size_up.ensures ∙ ap size_up (c.quotient.ensures ∙ ap₂ (λ (x y : ℚ). x /ℚ y) (most here) c.rises_apart-lead.ensures)))
