use Rattle.upp_limits.proofs.Operands.{held_known}
use Rattle.upp_limits.proofs.operand_numbers.with_one.Goals as goal

pub returns-clause-fits : goal.returns-clause-fits
returns-clause-fits c = λ z h. c.with_curve.ensures.fits (rw (c.listing_of.ensures.pieces, c.listing_of.ensures.tail) (held_known z c.args.end c.args.c.now c.listing_of.ensures.kept h))
