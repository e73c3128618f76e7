use Rattle.std.proofs.Common.{ap, ◌∙◌, pos}
use Rattle.rational.specs.Rational.{ℚ, int, ◌/ℚ◌}
use Rattle.rational.specs.Whole.{periods, whole_part}
use Rattle.rational.proofs.Whole.{not_zero}
use Rattle.upp_curve.proofs.reading.periods.Goals as goal

pub div-requires : goal.div-requires
div-requires c = not_zero c.args.period c.requires

pub returns-clause-value : goal.returns-clause-value
unfolding periods
returns-clause-value c =
    c.whole_part.ensures ∙ ap (λ x. int (pos (whole_part x))) (c.in_ok-ratio.ensures.value ∙ ap (λ (x : ℚ). x /ℚ c.args.period) c.in_ok-past.ensures.value)
