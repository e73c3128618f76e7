use Rattle.upp_limits.proofs.Operands.{held_scaled}
use Rattle.upp_limits.proofs.operand_numbers.with_factor.Goals as goal

pub returns-clause-fits : goal.returns-clause-fits
returns-clause-fits c = λ z h. c.with_scaled.ensures.fits (rw (c.listing_of.ensures.pieces, c.listing_of.ensures.tail) (held_scaled z c.args.end c.args.factor c.args.c.now c.listing_of.ensures.kept h))
