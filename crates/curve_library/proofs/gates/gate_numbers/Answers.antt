use Rattle.std.proofs.Common.{sym, subst}
use Rattle.std.proofs.lemmas.Bool.{true≢false}
use Rattle.rational.specs.Rational.{◌*ℚ◌}
use Rattle.rational.specs.Ratio.{IsSmall}
use Rattle.curve_library.proofs.GateParts.{gate_wide}
use Rattle.curve_library.proofs.gates.gate_numbers.Goals as goal

pub returns-in_default : goal.returns-in_default
returns-in_default c =
    gate_wide c.args.rate c.args.cycle c.args.slot c.requires.rate c.requires.slot c.requires.closes (λ fits. true≢false (sym (c.in_default.ensures.fits fits.closed)))

pub returns-in_default-mul : goal.returns-in_default-mul
returns-in_default-mul c =
    gate_wide c.args.rate c.args.cycle c.args.slot c.requires.rate c.requires.slot c.requires.closes (λ fits.
    true≢false (sym (c.in_default-mul.ensures.fits.1 (subst (λ x. IsSmall (c.args.rate *ℚ x)) (sym c.in-Ok.ensures.value) fits.missed))))

pub returns-in_default-mul-2 : goal.returns-in_default-mul-2
returns-in_default-mul-2 c =
    gate_wide c.args.rate c.args.cycle c.args.slot c.requires.rate c.requires.slot c.requires.closes (λ fits. true≢false (sym (c.in_default-mul-2.ensures.fits.1 fits.rise)))
