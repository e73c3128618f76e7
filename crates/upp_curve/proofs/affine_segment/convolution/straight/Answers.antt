use Rattle.std.proofs.Common.{sym, subst, inl, ◌∙◌}
use Rattle.std.proofs.lemmas.Result.{err_from_is_err_and}
use Rattle.upp_curve.specs.affine_segment.Segments.{open_of}
use Rattle.upp_curve.specs.affine_segment.Corners.{segment_of}
use Rattle.upp_curve.specs.affine_segment.Elements.{IsConvolved}
use Rattle.upp_curve.proofs.affine_segment.Convolved.{straight_convolved}
use Rattle.upp_curve.proofs.affine_segment.Made.{one_part_made}
use Rattle.rational.specs.Extended.{◌+ₑ◌}
use Rattle.upp_curve.proofs.affine_segment.convolution.straight.Goals as goal

pub returns-in_err-start-clause-wide : goal.returns-in_err-start-clause-wide
returns-in_err-start-clause-wide c =
    let p = err_from_is_err_and c.from_residual.result c.from_residual.ensures.1 in
    rw (p.1, p.2) (inl c.in_err-start.ensures.wide)

pub returns-clause-convolved : goal.returns-clause-convolved
returns-clause-convolved c =
    let a = segment_of c.args.a.now in
    let b = segment_of c.args.b.now in
    let start = c.in_ok-start.start in
    let corner = c.in_ok-start.ensures.corner in
    subst (IsConvolved (open_of a) (open_of b)) (sym c.alone.ensures)
    (straight_convolved a.from a.to a.line b.from b.to b.line start.line start.at c.in_ok-to.to c.requires.left c.requires.right c.requires.parallel
    corner.at c.in_ok-to.ensures.sum record { slope = corner.line.slope; value = corner.line.value ∙ corner.v })

pub returns-clause-parts : goal.returns-clause-parts
returns-clause-parts c =
    let a = segment_of c.args.a.now in
    let b = segment_of c.args.b.now in
    one_part_made a b c.in_ok-start.start (a.to +ₑ b.to) c.in_ok-to.to c.alone.result c.in_ok-start.ensures.corner c.in_ok-to.ensures.sum c.alone.ensures
