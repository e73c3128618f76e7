use Rattle.std.proofs.Common.{arith, subst}
use Rattle.rational.specs.Rational.{ℚ, ◌+ℚ◌, ◌≤ℚ◌, ◌<ℚ◌}
use Rattle.rational.proofs.Linear.{with3}
use Rattle.curve_call.proofs.LeastNumber.{end_fits}
use Rattle.curve_call.proofs.least.least_below.Goals as goal

none_late : (from d t : ℚ) → t <ℚ from +ℚ d → from +ℚ d ≤ℚ t → ⊥
none_late from d t h k = with3 from d t (λ c. omega (arith, c.le, c.lt, c.same))

pub sum-requires : goal.sum-requires
sum-requires c = let w = c.requires.window in end_fits w.0 c.args.from c.args.period c.args.slow.now c.args.fast.now w.1.first.curve w.1

pub least_below_until-requires-clause-below : goal.least_below_until-requires-clause-below
least_below_until-requires-clause-below c = λ t i h. absurd (none_late c.args.from c.args.period t i.before (subst (λ x. x ≤ℚ t) c.sum.ensures h))
