use Rattle.std.proofs.Common.{refl, sym, true≢false, inl}
use Rattle.curve_deviation.proofs.search.is_second_before.Goals as goal

pub returns-then-is_below-clause-before : goal.returns-then-is_below-clause-before
returns-then-is_below-clause-before c = λ h. record {
  unmet = c.if-is_below.ensures.below c.args.first c.args.k c.in-Some.ensures.window refl;
  narrow = c.in-Some.ensures.window.gauge;
}

pub returns-else-is_below-clause-past : goal.returns-else-is_below-clause-past
returns-else-is_below-clause-past c = λ h. inl (c.if-is_below.ensures.reached c.args.first c.args.k c.in-Some.ensures.window (λ e. true≢false (sym e)))
