use Rattle.std.proofs.Common.{◌∙◌, ap}
use Rattle.std.proofs.lemmas.Option.{IfSome_then}
use Rattle.rational.specs.Rational.{◌-ℚ◌}
use Rattle.curve_call.proofs.StepsFit.{if_it_fits}
use Rattle.element_envelope.proofs.pace.height.Goals as goal

pub returns : goal.returns
returns c =
    IfSome_then c.checked_difference.result (if_it_fits c.checked_difference.result _ _ c.checked_difference.ensures) (λ h e. e ∙ ap (λ y. c.args.v -ℚ y) c.in_ok-gained.ensures)
