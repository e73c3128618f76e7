use Rattle.plain_operators.proofs.pointwise.straight.both_little.Goals as goal

pub returns : goal.returns
returns c = λ h. (c.are_little.ensures c.if-not-are_little.false, c.are_little-2.ensures h)
