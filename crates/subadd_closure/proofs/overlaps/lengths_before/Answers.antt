use Rattle.std.proofs.Common.{◌≡◌, ap, sym, ◌∙◌, arith, pos}
use Rattle.std.proofs.lemmas.Int.{to_z-of_z}
use Rattle.rational.specs.Rational.{◌-ℚ◌, ◌/ℚ◌, ◌<ℚ◌}
use Rattle.rational.specs.Whole.{whole_part}
use Rattle.rational.specs.Floor.{floor}
use Rattle.rational.proofs.Laws.{le_of_lt, not_zero}
use Rattle.rational.proofs.Linear.{with2}
use Rattle.rational.proofs.Quotients.{div_nonneg}
use Rattle.rational.proofs.Whole.{whole_floor}
use Rattle.min_plus.specs.Functions.{zero_q}
use Rattle.subadd_closure.proofs.overlaps.lengths_before.Goals as goal

pub quotient-requires-clause-some : goal.quotient-requires-clause-some
quotient-requires-clause-some c =
    let a = c.args.a in
    let b = c.args.b in
    let room = c.requires.room in
    let some : zero_q <ℚ b -ℚ a = with2 a b (λ o. omega (arith, o.le, o.lt, o.same)) in
    λ z. not_zero (b -ℚ a) some (sym c.difference-length.ensures ∙ z)

pub returns-clause-value : goal.returns-clause-value
returns-clause-value c =
    let a = c.args.a in
    let b = c.args.b in
    let room = c.requires.room in
    let some : zero_q <ℚ b -ℚ a = with2 a b (λ o. omega (arith, o.le, o.lt, o.same)) in
    let ratio : c.quotient.result ≡ a /ℚ (b -ℚ a) = c.quotient.ensures ∙ ap (λ d. a /ℚ d) c.difference-length.ensures in
    let whole : c.floor.result ≡ pos (whole_part (a /ℚ (b -ℚ a))) =
    c.floor.ensures.value ∙ ap floor ratio ∙ whole_floor (a /ℚ (b -ℚ a)) (div_nonneg a (b -ℚ a) some (le_of_lt
    c.requires.late)) in
    grind (arith, to_z-of_z)
