use Rattle.plain_operators.proofs.pointwise.StraightSums.{whole_within, fractions_within}
use Rattle.plain_operators.proofs.pointwise.straight.are_small.Goals as goal

pub returns-then-both_little : goal.returns-then-both_little
returns-then-both_little c = λ h. whole_within c.args.left.now c.args.right.now (c.both_little.ensures c.if-both_little.true)

pub returns : goal.returns
returns c = λ h. fractions_within c.args.left.now c.args.right.now (c.both_little-2.ensures h)
