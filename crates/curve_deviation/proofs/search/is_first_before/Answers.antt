use Rattle.std.proofs.Common.{refl, sym, true≢false, inl}
use Rattle.curve_deviation.proofs.search.is_first_before.Goals as goal

pub returns-then-has_left-clause-past : goal.returns-then-has_left-clause-past
returns-then-has_left-clause-past c = λ h. inl (c.if-has_left.ensures.left c.args.k c.in-Some.ensures.window refl)

pub returns-else-has_left-clause-before : goal.returns-else-has_left-clause-before
returns-else-has_left-clause-before c = λ h. record {
  unmet = c.if-has_left.ensures.before c.args.k c.in-Some.ensures.window (λ e. true≢false (sym e));
  narrow = c.in-Some.ensures.window.gauge;
}
