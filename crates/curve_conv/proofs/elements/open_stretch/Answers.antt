use Rattle.std.specs.Prelude.{Some}
use Rattle.std.proofs.Common.{sym, subst}
use Rattle.rational.specs.declared.Extended.TheVariants.{Inf}
use Rattle.upp_curve.specs.declared.affine_segment.element.Element.TheVariants.{Open}
use Rattle.upp_curve.specs.affine_segment.Elements.{element_value}
use Rattle.upp_normal.specs.Ahead.{GoesOn}
use Rattle.rational.proofs.Compared.{is_less}
use Rattle.curve_conv.specs.Stretches.{SumStretch}
use Rattle.curve_conv.proofs.ElementStretches.{open_before, open_here, here_stands}
use Rattle.curve_conv.proofs.elements.open_stretch.Goals as goal

pub returns-in-Less-clause-goes : goal.returns-in-Less-clause-goes
returns-in-Less-clause-goes c =
    subst (GoesOn (element_value (Open c.args.from c.args.to.now c.args.line.now)) c.args.t) (sym c.nothing.ensures)
    (open_before c.args.from c.args.to.now c.args.line.now c.args.t (is_less c.cmp.result c.cmp.ensures.ranks c.in-Less.is))

pub returns-in-Equal-clause-goes : goal.returns-in-Equal-clause-goes
returns-in-Equal-clause-goes c =
    subst (λ n. GoesOn (element_value (Open c.args.from c.args.to.now c.args.line.now)) c.args.t record { at = Inf; line = Some c.args.line.now; next = n }) (sym c.end_time.ensures)
    (open_here c.args.from c.args.to.now c.args.line.now c.args.t c.requires.proper c.in-Equal.ensures.ranks)

pub returns-in-Equal-clause-sizes : goal.returns-in-Equal-clause-sizes
returns-in-Equal-clause-sizes c z end T S =
    subst (λ n. SumStretch z c.args.t record { at = Inf; line = Some c.args.line.now; next = n }) (sym c.end_time.ensures) (here_stands z end c.args.from c.args.t c.args.to.now c.args.line.now S)
