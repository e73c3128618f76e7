use Rattle.std.proofs.Common.{ap, sym, subst, ◌∙◌}
use Rattle.rational.specs.Rational.{◌*ℚ◌}
use Rattle.rational.proofs.Laws.{not_zero}
use Rattle.upp_curve.specs.declared.curve.Tail.{Tail}
use Rattle.upp_limits.specs.Periods.{HasPeriod}
use Rattle.upp_curve.specs.Steady.{rise_over, rise_in, slope_times, last_line}
use Rattle.upp_limits.proofs.Operands.{curve_period}
use Rattle.curve_call.proofs.rises.rise_over.Goals as goal

pub quotient-requires-clause-some : goal.quotient-requires-clause-some
quotient-requires-clause-some c =
    not_zero c.in-Periodic.period (subst HasPeriod (sym c.tail.ensures.tail ∙ c.in-Periodic.is) (curve_period c.args.c.now c.tail.ensures.kept))

pub returns-in-Periodic : goal.returns-in-Periodic
unfolding rise_over
returns-in-Periodic c =
    c.product.ensures ∙ ap (λ q. c.in-Periodic.rise *ℚ q) c.quotient.ensures
    ∙ sym (ap (λ (t : Tail). rise_in c.args.c.now.pieces t c.args.d) (sym c.tail.ensures.tail ∙ c.in-Periodic.is))

pub returns-in-Affine : goal.returns-in-Affine
unfolding rise_over
returns-in-Affine c =
    c.last_rise.ensures ∙ ap (λ ps. slope_times (last_line ps) c.args.d) c.pieces.ensures.pieces
    ∙ sym (ap (λ (t : Tail). rise_in c.args.c.now.pieces t c.args.d) (sym c.tail.ensures.tail ∙ c.in-Affine.is))

pub returns-in-Infinite : goal.returns-in-Infinite
unfolding rise_over
returns-in-Infinite c =
    c.zero.ensures ∙ sym (ap (λ (t : Tail). rise_in c.args.c.now.pieces t c.args.d) (sym c.tail.ensures.tail ∙ c.in-Infinite.is))
