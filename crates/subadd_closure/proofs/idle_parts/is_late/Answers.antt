use Rattle.std.proofs.Common.{◌≡◌, ◌+◌, arith, subst, suc}
use Rattle.rational.specs.Rational.{◌≤ℚ◌}
use Rattle.rational.proofs.Laws.{le_of_not_lt}
use Rattle.min_plus.specs.closure_laws.Star.{nat_times}
use Rattle.subadd_closure.proofs.QuickCurves.{not_less}
use Rattle.subadd_closure.proofs.idle_parts.is_late.Goals as goal

pub returns-in-Some : goal.returns-in-Some
returns-in-Some c told =
    let next : c.args.m + 1 ≡ suc c.args.m = omega arith in
    let a = c.args.a in
    subst (λ x. x ≤ℚ nat_times (suc c.args.m) a) c.one.ensures
    (subst (λ k. c.one.result ≤ℚ nat_times k a) next
    (subst (λ y. c.one.result ≤ℚ y) c.in-Some.ensures.value
    (le_of_not_lt (not_less c.is_less.result told c.is_less.ensures.less))))
