use Rattle.std.proofs.Common.{◌≡◌, sym, ◌∙◌, subst}
use Rattle.std.specs.Prelude.{true, false}
use Rattle.rational.specs.Rational.{lt_q}
use Rattle.upp_limits.specs.Limits.{joined, time_alone, value_alone}
use Rattle.upp_limits.specs.Gathered.{Gathers}
use Rattle.run_check.proofs.check_gauge.Loops.{slow_joined, quick_joined}
use Rattle.run_check.proofs.check_gauge.named.with_work.Goals as goal

pub returns-else-is_less-clause-value : goal.returns-else-is_less-clause-value
returns-else-is_less-clause-value c = λ n h.
    let a = c.args.start in
    let b = c.args.end in
    let w = c.args.bits in
    let times = joined (joined n (time_alone a)) (time_alone b) in
    let slow : lt_q a b ≡ false = sym c.is_less.ensures.test ∙ c.if-is_less.false in
    subst (λ m. Gathers c.with_value-named.result m) (slow_joined n a b w slow)
    (c.with_value-named.ensures times (c.with_time-2.ensures (joined n (time_alone a)) (c.with_time.ensures n h)))

pub returns-in-Some-clause-value : goal.returns-in-Some-clause-value
returns-in-Some-clause-value c = λ n h.
    let a = c.args.start in
    let b = c.args.end in
    let w = c.args.bits in
    let times = joined (joined n (time_alone a)) (time_alone b) in
    let quick : lt_q a b ≡ true = sym c.is_less.ensures.test ∙ c.if-is_less.true in
    subst (λ m. Gathers c.with_slope.result m) (quick_joined n a b w c.in-Some.pace quick c.in-Some.ensures.value)
    (c.with_slope.ensures (joined times (value_alone w))
    (c.with_value-named.ensures times (c.with_time-2.ensures (joined n (time_alone a)) (c.with_time.ensures n h))))
