use Rattle.std.proofs.Common.{sym, subst, pos, ◌∙◌}
use Rattle.rational.specs.Rational.{int, ◌≤ℚ◌}
use Rattle.min_plus.proofs.FiniteValues.{no_inf}
use Rattle.curve_deviation.proofs.PeriodsFound.{steady_not_wide}
use Rattle.curve_deviation.proofs.horizontals.value_then.Goals as goal
use Rattle.upp_curve.proofs.SteadyTimes.{steady_nonneg}

pub value_at-requires : goal.value_at-requires
value_at-requires c = subst (λ t. int (pos 0) ≤ℚ t) (sym c.requires.time) (steady_nonneg c.args.c.now c.keeps.ensures)

pub returns-in-Err-clause-fits : goal.returns-in-Err-clause-fits
returns-in-Err-clause-fits c = λ z end S h. absurd (steady_not_wide z end c.args.time c.args.c.now c.in-Err.field-0 S c.requires.time h c.in-Err.ensures.wide)

pub returns-in-Inf-clause-fits : goal.returns-in-Inf-clause-fits
returns-in-Inf-clause-fits c = λ z end S h.
    let (v, e) = c.requires.finite c.args.time (subst (λ t. int (pos 0) ≤ℚ t) (sym c.requires.time) (steady_nonneg c.args.c.now c.keeps.ensures)) in
    absurd (no_inf (sym e ∙ sym c.in-Ok.ensures.value ∙ c.in-Inf.is))
