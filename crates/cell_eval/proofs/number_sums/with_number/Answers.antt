use Rattle.std.proofs.Common.{◌≡◌, ◌≤◌, ◌^◌, sym, ap, ◌∙◌, subst}
use Rattle.std.specs.Prelude.{IfOk, MatchOption}
use Rattle.rational.specs.Rational.{◌+ℚ◌}
use Rattle.rational.specs.Ratio.{SumFits}
use Rattle.rational.specs.Gauge.{lcm}
use Rattle.cell_eval.specs.Tallies.{size_of}
use Rattle.cell_eval.proofs.Tallying.{some_tallies, both_fit, den_wide}
use Rattle.cell_eval.proofs.number_sums.with_number.Goals as goal

pub returns-in-Some-clause-some : goal.returns-in-Some-clause-some
returns-in-Some-clause-some c = λ xs h.
    let x = c.args.x in
    let t = c.args.so_far in
    let s = subst (λ z. IfOk c.add-sizes.result (λ q. q ≡ t.sizes +ℚ z)) c.size.ensures c.add-sizes.ensures.value in
    let d = subst (λ m. MatchOption m (2 ^ 128 ≤ lcm t.den c.denominator.result) (λ k. k ≡ lcm t.den c.denominator.result)) c.in-Some.is c.least_common_multiple.ensures in
    some_tallies xs x t c.in-Some.den c.joined.result h (d ∙ ap (lcm t.den) c.denominator.ensures.value)
    (c.joined.ensures.some (t.sizes +ℚ size_of x) (t.sum +ℚ x) s c.add-sum.ensures.value)

pub returns-in-Some-clause-none : goal.returns-in-Some-clause-none
returns-in-Some-clause-none c = λ xs rest h.
    let x = c.args.x in
    let t = c.args.so_far in
    both_fit xs rest x t c.joined.result h (λ p q.
    c.joined.ensures.none (c.add-sizes.ensures.fits (subst (λ z. SumFits t.sizes z) (sym c.size.ensures) p)) (c.add-sum.ensures.fits q))

pub returns-in-None-clause-none : goal.returns-in-None-clause-none
returns-in-None-clause-none c = λ xs rest h.
    let x = c.args.x in
    let t = c.args.so_far in
    let d = subst (λ m. MatchOption m (2 ^ 128 ≤ lcm t.den c.denominator.result) (λ k. k ≡ lcm t.den c.denominator.result)) c.in-None.is c.least_common_multiple.ensures in
    den_wide xs rest x t h (subst (λ b. 2 ^ 128 ≤ lcm t.den b) c.denominator.ensures.value d)
