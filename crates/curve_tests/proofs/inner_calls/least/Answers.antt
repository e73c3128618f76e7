use Rattle.std.proofs.Common.{refl, sym, subst, ◌<◌, ◌^◌, true≢false}
use Rattle.rational.specs.Rational.{◌≤ℚ◌, ◌<ℚ◌, ◌+ℚ◌}
use Rattle.rational.proofs.Laws.{le_of_not_lt}
use Rattle.upp_limits.specs.Gauges.{gauge_over}
use Rattle.upp_limits.specs.declared.op_kind.OpKind.TheVariants.{Min}
use Rattle.curve_call.proofs.KnownGauge.{min_sizes, known_compared}
use Rattle.curve_tests.proofs.inner_calls.least.Goals as goal

pub least_periods-requires : goal.least_periods-requires
least_periods-requires c =
    let start = c.in-Ok.start in
    let first = c.repeats.ensures c.if-not-repeats.false in
    let second = c.repeats-2.ensures c.if-not-repeats-2.false in
    let e = c.in-Some.ensures.exact c.in-Ok-add.end (λ k. k) refl in
    let small : gauge_over Min c.args.f.now c.args.g.now c.in-Ok-add.end < 2 ^ 120 = subst (λ n. n < 2 ^ 120) e c.if-limit.false in (
      min_sizes c.args.f.now c.args.g.now (start +ℚ c.args.period),
      known_compared c.args.f.now c.args.g.now start c.args.period _ first.2 second.2
          (subst (λ t. gauge_over Min c.args.f.now c.args.g.now t < 2 ^ 120) c.in-Ok-add.ensures.value small) c.in-Ok.ensures.value
          (subst (λ y. y ≤ℚ start) c.zero.ensures (le_of_not_lt (λ h. true≢false (sym (c.if-is_less.ensures.less.1 h)))))
          (subst (λ y. y <ℚ c.args.period) c.zero-2.ensures (c.is_less-2.ensures.less.0 c.if-not-is_less.false)) (first.0, first.1) (second.0, second.1),
    )
