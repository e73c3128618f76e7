use Rattle.std.proofs.Common.{sym, subst}
use Rattle.upp_curve.specs.declared.affine_segment.element.Element.TheVariants.{Point}
use Rattle.upp_curve.specs.affine_segment.Elements.{element_value}
use Rattle.upp_normal.specs.Ahead.{GoesOn}
use Rattle.rational.proofs.Compared.{is_less, is_greater}
use Rattle.curve_conv.proofs.ElementStretches.{point_before, point_here, point_after, point_stands}
use Rattle.curve_conv.proofs.elements.point_stretch.Goals as goal

pub returns-in-Less-clause-goes : goal.returns-in-Less-clause-goes
returns-in-Less-clause-goes c =
    subst (GoesOn (element_value (Point c.args.x c.args.v)) c.args.t) (sym c.nothing.ensures) (point_before c.args.x c.args.v c.args.t (is_less c.cmp.result c.cmp.ensures.ranks c.in-Less.is))

pub returns-in-Equal-clause-goes : goal.returns-in-Equal-clause-goes
returns-in-Equal-clause-goes c = point_here c.args.x c.args.v c.args.t c.in-Equal.ensures.ranks

pub returns-in-Equal-clause-sizes : goal.returns-in-Equal-clause-sizes
returns-in-Equal-clause-sizes c z end T P = point_stands z end c.args.x c.args.v c.args.t c.in-Equal.ensures.ranks P

pub returns-in-Greater-clause-goes : goal.returns-in-Greater-clause-goes
returns-in-Greater-clause-goes c =
    subst (GoesOn (element_value (Point c.args.x c.args.v)) c.args.t) (sym c.nothing-in-Greater.ensures) (point_after c.args.x c.args.v c.args.t (is_greater c.cmp.result c.cmp.ensures.ranks c.in-Greater.is))
