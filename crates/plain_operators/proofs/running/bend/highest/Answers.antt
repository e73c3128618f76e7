use Rattle.std.proofs.Common.{subst}
use Rattle.rational.specs.Rational.{◌<ℚ◌}
use Rattle.rational.proofs.Compared.{is_greater, not_greater}
use Rattle.plain_operators.proofs.running.Bending.{sup_falling}
use Rattle.plain_operators.proofs.running.bend.highest.Goals as goal

pub returns-in_default : goal.returns-in_default
returns-in_default c =
    let slope = not_greater c.cmp.result c.cmp.ensures.ranks c.in_default.not-Greater in
    let r = sup_falling c.args.level c.args.s.now c.zero.result c.greater.result c.zero.ensures slope c.requires.right c.greater.ensures in
    rw (c.straight.ensures, c.level_line.ensures) record { follows = r.follows; made = r.made }

pub highest_rising-requires-clause-fits : goal.highest_rising-requires-clause-fits
highest_rising-requires-clause-fits c = c.requires.fits (subst (λ z. z <ℚ c.args.s.now.line.slope) c.zero.ensures (is_greater c.cmp.result c.cmp.ensures.ranks c.in-Greater.is))
