use Rattle.std.proofs.lemmas.Option.{IfSome_then}
use Rattle.rational.specs.Rational.{◌*ℚ◌}
use Rattle.curve_call.proofs.StepsFit.{if_it_fits}
use Rattle.plain_operators.proofs.pointwise.Leanings.{through}
use Rattle.plain_operators.proofs.pointwise.leaning.icept_of.Goals as goal

pub returns : goal.returns
returns c = IfSome_then c.checked_difference.result (if_it_fits c.checked_difference.result _ _ c.checked_difference.ensures) (λ k e. through c.args.v k c.in_ok-risen.risen (c.args.rate *ℚ c.args.t) c.in_ok-risen.ensures e)
