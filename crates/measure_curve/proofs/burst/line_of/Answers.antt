use Rattle.std.proofs.Common.{subst, sym, ap, ◌∙◌}
use Rattle.rational.specs.Rational.{ℚ}
use Rattle.min_plus.specs.Functions.{IsFinite}
use Rattle.upp_curve.specs.Curve.{SpecCurve, value_at}
use Rattle.upp_curve.specs.Kinds.{bucket}
use Rattle.measure_curve.proofs.Bursts.{line_finite}
use Rattle.measure_curve.proofs.burst.line_of.Goals as goal

pub returns-in-Ok-clause-finite : goal.returns-in-Ok-clause-finite
returns-in-Ok-clause-finite c =
    let is = c.in-Ok.ensures.made ∙ ap (λ (z : ℚ). bucket z c.args.rate) c.zero.ensures in
    subst (λ (f : SpecCurve). IsFinite (value_at f)) (sym is) (line_finite c.args.rate)
