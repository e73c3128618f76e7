use Rattle.std.proofs.Common.{pos, sym, subst, ap, ◌∙◌, refl, true≢false}
use Rattle.rational.specs.Rational.{◌*ℚ◌, ◌≤ℚ◌, ◌<ℚ◌, int}
use Rattle.rational.specs.Gauge.{size_up}
use Rattle.rational.proofs.Laws.{le_of_not_lt, not_zero}
use Rattle.upp_limits.specs.Windows.{IsLeast}
use Rattle.curve_call.proofs.LeastNumber.{number_zero, number_least}
use Rattle.curve_call.proofs.least.least_times.Goals as goal

pub returns-then-not-is_less : goal.returns-then-not-is_less
returns-then-not-is_less c =
    number_zero c.args.gap c.args.lead
    (le_of_not_lt (λ h. true≢false (sym (c.if-not-is_less.ensures.less.1 (subst (λ y. y <ℚ c.args.gap) (sym c.zero.ensures) h)))))

pub quotient-requires-clause-some : goal.quotient-requires-clause-some
quotient-requires-clause-some c = not_zero c.args.lead c.requires.some

pub returns : goal.returns
returns c =
    let some = subst (λ y. y <ℚ c.args.gap) c.zero.ensures (c.if-not-is_less.ensures.less.0 refl) in
    subst (IsLeast (λ k. c.args.gap ≤ℚ int (pos k) *ℚ c.args.lead)) (sym (c.size_up.ensures ∙ ap size_up c.quotient.ensures)) (number_least c.args.gap c.args.lead some c.requires.some)
