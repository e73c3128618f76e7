use Rattle.upp_curve.specs.declared.affine_segment.element.Element.TheVariants.{Point, Open}
use Rattle.upp_curve.proofs.affine_segment.Convolved.{turned_ok}
use Rattle.upp_curve.proofs.affine_segment.convolution.element_conv.Goals as goal

pub returns-in-Point-b-2-clause-convolved : goal.returns-in-Point-b-2-clause-convolved
returns-in-Point-b-2-clause-convolved c =
    let o = c.in-Open in
    let p = c.in-Point-b-2 in
    rw (o.is, p.is) (turned_ok (Point p.x p.v) (Open o.from o.to o.line) c.moved-in-Point-b-2.result c.moved-in-Point-b-2.ensures.convolved)
