use Rattle.std.proofs.Common.{pos, sym, subst, ap, ◌∙◌, refl, true≢false}
use Rattle.rational.specs.Rational.{ℚ, ◌/ℚ◌, ◌<ℚ◌, int}
use Rattle.rational.specs.Ratio.{IsSmall}
use Rattle.rational.specs.Gauge.{size_up}
use Rattle.rational.specs.declared.Extended.TheVariants.{Fin}
use Rattle.rational.proofs.Laws.{le_of_not_lt, not_zero}
use Rattle.upp_limits.specs.declared.op_kind.OpKind.TheVariants.{FifoLeft}
use Rattle.upp_limits.specs.Windows.{IsLeast, Meets}
use Rattle.upp_curve.specs.Curve.{value_at}
use Rattle.plain_operators.specs.running.Behind.{moved, IsMost}
use Rattle.plain_operators.proofs.running.LeastBehind.{gate_sizes, behind_call, first_fits, lead_fits, quotient_fits, least_none, least_same, least_behind}
use Rattle.plain_operators.proofs.running.behind.enough_periods.Goals.{After-most_behind-most}
use Rattle.plain_operators.proofs.running.behind.enough_periods.Goals as goal

pub most_behind-most-requires : goal.most_behind-most-requires
most_behind-most-requires c =
    let f = c.args.beta.now in let g = c.args.cross.now in
    (gate_sizes f g c.args.theta, behind_call f g c.args.theta c.args.first.now c.requires)

-- how far it is behind at most
most : (c : After-most_behind-most) → IsMost (gate_sizes c.args.beta.now c.args.cross.now c.args.theta) (value_at c.args.beta.now) (moved (value_at c.args.cross.now) c.args.theta)
    c.args.first.now.start c.args.first.now.end c.most_behind-most.result
most c =
    let f = c.args.beta.now in let g = c.args.cross.now in
    c.most_behind-most.ensures (gate_sizes f g c.args.theta) (behind_call f g c.args.theta c.args.first.now c.requires)

pub returns-then-not-is_less : goal.returns-then-not-is_less
returns-then-not-is_less c =
    least_none c.args.beta.now c.args.cross.now c.args.theta c.most_behind-most.result c.args.first.now c.requires (most (goal.at.returns-then-not-is_less c).After-most_behind-most)
    (le_of_not_lt (λ h. true≢false (sym (c.if-not-is_less.ensures.less.1 (subst (λ y. y <ℚ c.most_behind-most.result) (sym c.zero.ensures) h)))))

pub rises_apart-lead-requires : goal.rises_apart-lead-requires
rises_apart-lead-requires c =
    let rises = first_fits c.args.beta.now c.args.cross.now c.args.theta c.args.first.now c.requires in
    record { left = rises.0; right = rises.1; apart = lead_fits c.args.beta.now c.args.cross.now c.args.theta c.args.first.now c.requires }

pub returns-then-not-is_less-2 : goal.returns-then-not-is_less-2
returns-then-not-is_less-2 c =
    least_same c.args.beta.now c.args.cross.now c.args.theta c.args.first.now c.requires
    (λ h. true≢false (sym (c.if-not-is_less-2.ensures.less.1 (subst (λ y. y <ℚ c.rises_apart-lead.result) (sym c.zero-2.ensures) (subst (λ y. int (pos 0) <ℚ y) (sym c.rises_apart-lead.ensures) h)))))

pub quotient-requires-clause-some : goal.quotient-requires-clause-some
quotient-requires-clause-some c = not_zero c.rises_apart-lead.result (subst (λ y. y <ℚ c.rises_apart-lead.result) c.zero-2.ensures (c.if-not-is_less-2.ensures.less.0 refl))

pub quotient-requires-clause-fits : goal.quotient-requires-clause-fits
quotient-requires-clause-fits c =
    let f = c.args.beta.now in let g = c.args.cross.now in let w = c.args.first.now in
    let M = most (goal.at.quotient-requires-clause-fits c).After-most_behind-most in
    let gain = subst (λ y. int (pos 0) <ℚ y) c.rises_apart-lead.ensures (subst (λ y. y <ℚ c.rises_apart-lead.result) c.zero-2.ensures (c.if-not-is_less-2.ensures.less.0 refl)) in
    subst (λ y. IsSmall (c.most_behind-most.result /ℚ y)) (sym c.rises_apart-lead.ensures) (quotient_fits f g c.args.theta c.most_behind-most.result w c.requires M.size gain)

pub returns : goal.returns
returns c =
    let f = c.args.beta.now in let g = c.args.cross.now in let w = c.args.first.now in
    let m = c.most_behind-most.result in
    let M = most (goal.at.returns c).After-most_behind-most in
    let gain = subst (λ y. int (pos 0) <ℚ y) c.rises_apart-lead.ensures (subst (λ y. y <ℚ c.rises_apart-lead.result) c.zero-2.ensures (c.if-not-is_less-2.ensures.less.0 refl)) in
    let some = subst (λ y. y <ℚ m) c.zero.ensures (c.if-not-is_less.ensures.less.0 refl) in
    subst (IsLeast (Meets (FifoLeft (Fin c.args.theta)) f g)) (sym (c.size_up.ensures ∙ ap size_up (c.quotient.ensures ∙ ap (λ (y : ℚ). m /ℚ y) c.rises_apart-lead.ensures)))
    (least_behind f g c.args.theta m w c.requires M some gain)
