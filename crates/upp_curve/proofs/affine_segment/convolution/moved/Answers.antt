use Rattle.std.proofs.Common.{sym, subst}
use Rattle.upp_curve.specs.declared.affine_segment.element.Element.TheVariants.{Point}
use Rattle.upp_curve.specs.affine_segment.Segments.{open_of}
use Rattle.upp_curve.specs.affine_segment.Corners.{segment_of}
use Rattle.upp_curve.specs.affine_segment.Elements.{IsConvolved}
use Rattle.upp_curve.proofs.affine_segment.Convolved.{moved_convolved}
use Rattle.upp_curve.proofs.affine_segment.Made.{moved_part}
use Rattle.upp_curve.proofs.affine_segment.convolution.moved.Goals as goal

pub returns-clause-convolved : goal.returns-clause-convolved
returns-clause-convolved c =
    let s = segment_of c.args.s.now in
    subst (IsConvolved (Point c.args.x c.args.v) (open_of s)) (sym c.alone.ensures)
    (moved_convolved c.args.x c.args.v s.from s.to s.line c.in_ok-from.from c.in_ok-start.start c.in_ok-after.after c.in_ok-to.to c.in_ok-line.line
    c.requires c.in_ok-from.ensures.value c.in_ok-to.ensures.sum c.in_ok-start.ensures.value c.in_ok-after.ensures.value c.in_ok-line.ensures.through)

pub returns-clause-parts : goal.returns-clause-parts
returns-clause-parts c =
    let s = segment_of c.args.s.now in
    moved_part c.args.x c.args.v s.from s.to s.line c.in_ok-from.from c.in_ok-start.start c.in_ok-after.after c.in_ok-to.to c.in_ok-line.line c.alone.result
    c.in_ok-from.ensures.value c.in_ok-to.ensures.sum c.in_ok-start.ensures.value c.in_ok-after.ensures.value c.in_ok-line.ensures.through c.alone.ensures
