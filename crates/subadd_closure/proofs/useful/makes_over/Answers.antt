use Rattle.std.proofs.Common.{refl, subst}
use Rattle.rational.specs.Rational.{◌≤ℚ◌}
use Rattle.rational.proofs.Compared.{least_by_test}
use Rattle.upp_curve.specs.affine_segment.Elements.{start_of}
use Rattle.subadd_closure.proofs.UsefulPairs.{sum_is}
use Rattle.subadd_closure.proofs.useful.makes_over.Goals as goal

pub points_over-requires-clause-from : goal.points_over-requires-clause-from
points_over-requires-clause-from c =
    sum_is c.start_of.result c.start_of-2.result (start_of c.args.x.now) (start_of c.args.y.now) c.in-Some.from c.in-Some.ensures
    c.start_of.ensures c.start_of-2.ensures

pub segments_over-requires-clause-from : goal.segments_over-requires-clause-from
segments_over-requires-clause-from c =
    sum_is c.start_of.result c.start_of-2.result (start_of c.args.x.now) (start_of c.args.y.now) c.in-Some.from c.in-Some.ensures
    c.start_of.ensures c.start_of-2.ensures

pub segments_over-requires-clause-late : goal.segments_over-requires-clause-late
segments_over-requires-clause-late c =
    subst (λ z. z ≤ℚ c.in-Some.from) c.zero.ensures (least_by_test c.in-Some.from c.zero.result c.if-is_less.ensures.less)

pub returns-then-points_over : goal.returns-then-points_over
returns-then-points_over c h = c.if-points_over.ensures refl
