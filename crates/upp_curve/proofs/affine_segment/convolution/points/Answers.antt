use Rattle.std.proofs.Common.{sym, ap, ◌∙◌, subst}
use Rattle.rational.specs.Rational.{◌+ℚ◌}
use Rattle.upp_curve.specs.declared.affine_segment.element.Element.TheVariants.{Point}
use Rattle.upp_curve.specs.affine_segment.Elements.{IsConvolved}
use Rattle.upp_curve.specs.affine_segment.MadeParts.{alone_part}
use Rattle.upp_curve.proofs.affine_segment.Convolved.{points_convolved}
use Rattle.upp_curve.proofs.affine_segment.convolution.points.Goals as goal

pub returns-clause-convolved : goal.returns-clause-convolved
returns-clause-convolved c =
    subst (IsConvolved (Point c.args.x c.args.v) (Point c.args.y c.args.u)) (sym c.alone.ensures)
    (points_convolved c.args.x c.args.v c.args.y c.args.u c.in_ok-at.at c.in_ok-sum.sum c.in_ok-at.ensures.value c.in_ok-sum.ensures.value)

pub returns-clause-parts : goal.returns-clause-parts
returns-clause-parts c =
    c.alone.ensures ∙ ap (λ z. alone_part (Point z c.in_ok-sum.sum)) c.in_ok-at.ensures.value
    ∙ ap (λ z. alone_part (Point (c.args.x +ℚ c.args.y) z)) c.in_ok-sum.ensures.value
