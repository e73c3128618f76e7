use Rattle.std.proofs.Common.{subst}
use Rattle.rational.specs.Extended.{Ext}
use Rattle.rational.specs.declared.Extended.TheVariants.{Fin, Inf}
use Rattle.min_plus.specs.Deviations.{IsVerticalDeviation}
use Rattle.upp_curve.specs.Curve.{SpecCurve, value_at}
use Rattle.measure_curve.proofs.Bursts.{not_infinite, least_burst}
use Rattle.measure_curve.proofs.burst.least_burst.Goals as goal

pub unreachable-requires : goal.unreachable-requires
unreachable-requires g c =
    let f = value_at c.args.curve.now in
    let at_inf = subst (λ (v : Ext). IsVerticalDeviation f (value_at c.in_ok-line.line) v) c.in-Inf.is c.in_ok-burst.ensures.value in
    let of_line = subst (λ (l : SpecCurve). IsVerticalDeviation f (value_at l) Inf) c.in_ok-line.ensures.is at_inf in
    not_infinite f c.args.rate c.requires.bounded c.requires.rate of_line

pub returns-clause-least : goal.returns-clause-least
returns-clause-least g c =
    let f = value_at c.args.curve.now in
    let b = c.in-Fin.burst in
    let at_burst = subst (λ (v : Ext). IsVerticalDeviation f (value_at c.in_ok-line.line) v) c.in-Fin.is c.in_ok-burst.ensures.value in
    let of_line = subst (λ (l : SpecCurve). IsVerticalDeviation f (value_at l) (Fin b)) c.in_ok-line.ensures.is at_burst in
    least_burst f c.args.rate b of_line
