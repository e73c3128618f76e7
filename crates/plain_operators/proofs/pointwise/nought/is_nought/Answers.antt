use Rattle.std.proofs.Common.{◌∙◌}
use Rattle.plain_operators.proofs.pointwise.Noughts.{nought_is}
use Rattle.plain_operators.proofs.pointwise.nought.is_nought.Goals as goal

pub returns-then-eq-2 : goal.returns-then-eq-2
returns-then-eq-2 c told =
    nought_is c.args.c.now c.in-Some.s c.in-Some.ensures (c.eq.ensures.same.0 c.if-eq.true ∙ c.zero-zero.ensures)
    (c.eq-then-eq.ensures.same.0 c.if-eq-2.true ∙ c.zero-zero.ensures) (c.eq-then-eq-2.ensures.same.0 told ∙ c.zero-zero.ensures)
