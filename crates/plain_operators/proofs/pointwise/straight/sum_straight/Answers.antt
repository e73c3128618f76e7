use Rattle.std.proofs.Common.{ap, ◌∙◌}
use Rattle.plain_operators.specs.pointwise.Straight.{straight_curve}
use Rattle.plain_operators.proofs.pointwise.StraightSums.{steps_fit, total_is, call_within}
use Rattle.plain_operators.proofs.pointwise.straight.sum_straight.Goals as goal

pub total_of-both-requires : goal.total_of-both-requires
total_of-both-requires c =
    steps_fit c.args.f.now c.args.g.now c.args.left.now c.args.right.now c.requires.left c.requires.right c.keeps.ensures c.keeps-2.ensures c.in_ok-refuse_sum.ensures.within

pub returns-clause-value : goal.returns-clause-value
returns-clause-value c =
    λ t h. total_is c.args.f.now c.args.g.now c.in_ok-line_curve.field-0 c.args.left.now c.args.right.now c.requires.left c.requires.right
    (c.in_ok-line_curve.ensures ∙ ap straight_curve c.total_of-both.ensures) t

pub returns-clause-limits : goal.returns-clause-limits
returns-clause-limits c = call_within c.args.f.now c.args.g.now c.in_ok-refuse_sum.ensures.within
