use Rattle.std.proofs.Common.{subst}
use Rattle.rational.specs.Rational.{◌<ℚ◌, ◌≤ℚ◌}
use Rattle.upp_curve.specs.declared.affine_segment.element.Element.TheVariants.{Point}
use Rattle.rational.proofs.Compared.{not_less_out}
use Rattle.subadd_closure.specs.ElementCurves.{point_closure, point_at_zero}
use Rattle.subadd_closure.proofs.PointAnswers.{ready_point, ready_zero}
use Rattle.subadd_closure.proofs.SegmentAnswers.{ready_answer}
use Rattle.subadd_closure.proofs.points.point_closure.Goals as goal

pub returns-then-is_less : goal.returns-then-is_less
returns-then-is_less c =
    ready_answer (Point c.args.x c.args.v) (point_closure c.args.x c.args.v) c.repeating.result
    (ready_point c.args.x c.args.v (subst (λ z. z <ℚ c.args.x) c.zero.ensures (c.is_less.ensures.less.0 c.if-is_less.true))) c.repeating.ensures

pub returns : goal.returns
returns c =
    ready_answer (Point c.args.x c.args.v) (point_at_zero c.args.v) c.at_zero.result
    (ready_zero c.args.x c.args.v c.requires.time
    (subst (λ z. c.args.x ≤ℚ z) c.zero.ensures (not_less_out c.is_less.result c.zero.result c.args.x c.is_less.ensures.less c.if-is_less.false)) c.requires.value)
    c.at_zero.ensures
