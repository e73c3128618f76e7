use Rattle.std.proofs.Common.{arith, ap₂, sym, ◌∙◌, ◌≡◌, ◌≤◌, ◌^◌, ◌*◌, ◌/◌, ℕ, subst}
use Rattle.rational.specs.Gauge.{lcm}
use Rattle.rational.specs.Rational.{den}
use Rattle.std.specs.Option.{MatchOption}
use Rattle.curve_library.specs.Shares.{IsQuotient, SharesFit, AreShares}
use Rattle.curve_library.proofs.SharesAre.{step_some, count_far, shares_are}
use Rattle.curve_library.proofs.shares.whole_periods.Goals as goal

pub product_quotient-requires-clause-some : goal.product_quotient-requires-clause-some
product_quotient-requires-clause-some c =
    let J = c.args.time in
    let P = c.args.period in
    let g : c.in_ok-grid.grid ≡ lcm (den J) (den P) = c.in_ok-grid.ensures ∙ ap₂ (λ (a b : ℕ). lcm a b) c.denominator.ensures.value c.denominator-2.ensures.value in
    step_some J P c.in_ok-grid.grid c.in_ok-step.step c.requires.time c.requires.period g c.in_ok-step.ensures.0

pub returns-in_err-count : goal.returns-in_err-count
returns-in_err-count c =
    let J = c.args.time in
    let P = c.args.period in
    let g : c.in_ok-grid.grid ≡ lcm (den J) (den P) = c.in_ok-grid.ensures ∙ ap₂ (λ (a b : ℕ). lcm a b) c.denominator.ensures.value c.denominator-2.ensures.value in
    subst (λ r. MatchOption r (SharesFit J P → ⊥) (AreShares J P)) (sym c.from_residual-in_err-count.ensures)
    (count_far J P c.in_ok-grid.grid c.in_ok-step.step c.requires.time c.requires.period g c.in_ok-step.ensures.0
    (subst (λ (x : ℕ). 2 ^ 127 ≤ x * (c.in_ok-grid.grid / den J) / c.in_ok-step.step) c.numerator_size.ensures.value
    (subst (λ (x : ℕ). 2 ^ 127 ≤ c.numerator_size.result * (c.in_ok-grid.grid / x) / c.in_ok-step.step) c.denominator-3.ensures.value c.in_err-count.ensures)))

pub returns : goal.returns
returns c =
    let J = c.args.time in
    let P = c.args.period in
    let g : c.in_ok-grid.grid ≡ lcm (den J) (den P) = c.in_ok-grid.ensures ∙ ap₂ (λ (a b : ℕ). lcm a b) c.denominator.ensures.value c.denominator-2.ensures.value in
    let top = ap₂ (λ (a b : ℕ). a * (c.in_ok-grid.grid / b)) c.numerator_size.ensures.value c.denominator-3.ensures.value in
    shares_are J P c.on_grid.result c.in_ok-grid.grid c.in_ok-step.step c.in_ok-count.count c.in_ok-count.rest c.requires.time c.requires.period g c.in_ok-step.ensures.0
    (omega arith) c.in_ok-step.ensures.1
    (subst (λ (x : ℕ). IsQuotient x c.in_ok-step.step (c.in_ok-count.count, c.in_ok-count.rest)) top c.in_ok-count.ensures) c.on_grid.ensures
