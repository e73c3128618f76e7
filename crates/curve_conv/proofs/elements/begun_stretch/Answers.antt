use Rattle.std.specs.Prelude.{Some}
use Rattle.std.proofs.Common.{refl, sym, subst, true≢false}
use Rattle.rational.specs.declared.Extended.TheVariants.{Fin}
use Rattle.upp_curve.specs.declared.affine_segment.element.Element.TheVariants.{Open}
use Rattle.upp_curve.specs.affine_segment.Elements.{element_value}
use Rattle.upp_normal.specs.Ahead.{GoesOn}
use Rattle.curve_conv.specs.Stretches.{SumStretch}
use Rattle.curve_conv.proofs.ElementStretches.{open_within, open_after, within_stands}
use Rattle.curve_conv.proofs.elements.begun_stretch.Goals as goal

pub returns-then-is_inside-clause-goes : goal.returns-then-is_inside-clause-goes
returns-then-is_inside-clause-goes c =
    subst (λ n. GoesOn (element_value (Open c.args.from c.args.to.now c.args.line.now)) c.args.t record { at = Fin c.line_at.result; line = Some c.args.line.now; next = n }) (sym c.end_time.ensures)
    (open_within c.args.from c.args.to.now c.args.line.now c.args.t c.line_at.result c.requires.past (c.if-is_inside.ensures.0 refl) c.line_at.ensures)

pub returns-then-is_inside-clause-sizes : goal.returns-then-is_inside-clause-sizes
returns-then-is_inside-clause-sizes c z end T S =
    subst (λ n. SumStretch z c.args.t record { at = Fin c.line_at.result; line = Some c.args.line.now; next = n }) (sym c.end_time.ensures)
    (within_stands z end c.args.from c.args.t c.line_at.result c.args.to.now c.args.line.now T c.line_at.ensures S)

pub returns-clause-goes : goal.returns-clause-goes
returns-clause-goes c =
    subst (GoesOn (element_value (Open c.args.from c.args.to.now c.args.line.now)) c.args.t) (sym c.nothing.ensures)
    (open_after c.args.from c.args.to.now c.args.line.now c.args.t (λ h. true≢false (sym (c.if-is_inside.ensures.1 h))))
