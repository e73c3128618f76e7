use Rattle.std.proofs.Common.{◌≡◌, ◌∙◌, ap, subst}
use Rattle.std.specs.Prelude.{IfSome, pos}
use Rattle.rational.specs.Rational.{int, ◌-ℚ◌, ◌*ℚ◌, ◌≤ℚ◌}
use Rattle.plain_operators.proofs.pointwise.leaning.number_between.Goals as goal

pub returns : goal.returns
returns c =
    let r = c.times_over.result in
    let faster = c.args.high.now.slope -ℚ c.args.low.now.slope in
    let apart = c.args.low.now.icept -ℚ c.args.high.now.icept in
    let gap : c.in_ok-gap.gap ≡ apart -ℚ faster *ℚ c.args.from = c.in_ok-gap.ensures ∙ ap (λ f. apart -ℚ f *ℚ c.args.from) c.in_ok-faster.ensures in
    let lead : c.in_ok-lead.lead ≡ faster *ℚ c.args.period = c.in_ok-lead.ensures ∙ ap (λ f. f *ℚ c.args.period) c.in_ok-faster.ensures in
    subst (λ g. IfSome r (λ k. g ≤ℚ int (pos k) *ℚ (faster *ℚ c.args.period))) gap
    (subst (λ l. IfSome r (λ k. c.in_ok-gap.gap ≤ℚ int (pos k) *ℚ l)) lead c.times_over.ensures)
