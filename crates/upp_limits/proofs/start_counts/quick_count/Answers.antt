use Rattle.std.proofs.Common.{ap, ◌∙◌}
use Rattle.rational.specs.Rational.{◌/ℚ◌}
use Rattle.min_plus.specs.WholeUp.{whole_up}
use Rattle.rational.proofs.Whole.{not_zero}
use Rattle.upp_limits.proofs.WholeCounts.{some_top}
use Rattle.upp_limits.proofs.start_counts.quick_count.Goals as goal

pub whole_count-requires-clause-size : goal.whole_count-requires-clause-size
whole_count-requires-clause-size c = some_top c.args.period c.requires

pub div-requires : goal.div-requires
div-requires c = not_zero c.args.period c.requires

pub returns-then-e-eq1 : goal.returns-then-e-eq1
returns-then-e-eq1 c = c.whole_count.ensures ∙ ap (λ g. whole_up (g /ℚ c.args.period)) c.in-Ok.ensures.value
