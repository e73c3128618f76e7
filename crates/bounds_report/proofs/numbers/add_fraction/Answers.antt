use Rattle.std.proofs.Common.{◌<◌, ℕ, subst, sym}
use Rattle.rational.specs.Euclid.{gcd_pos}
use Rattle.bounds_report.proofs.numbers.add_fraction.Goals as goal

pub nonzero_div-top : goal.nonzero_div-top
nonzero_div-top c = subst (λ (g : ℕ). 0 < g) (sym c.gcd_of-common.ensures) (gcd_pos c.args.number.top c.args.number.bottom c.requires.some)

pub nonzero_div-bottom : goal.nonzero_div-bottom
nonzero_div-bottom c = subst (λ (g : ℕ). 0 < g) (sym c.gcd_of-common.ensures) (gcd_pos c.args.number.top c.args.number.bottom c.requires.some)
