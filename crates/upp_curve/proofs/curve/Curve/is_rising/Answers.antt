use Rattle.std.specs.Prelude.{◌↔◌, IsTrue, Some, None}
use Rattle.std.proofs.Common.{sym, subst, ap, ◌∙◌}
use Rattle.rational.specs.Extended.{◌+ₑ◌}
use Rattle.rational.specs.declared.Extended.TheVariants.{Fin}
use Rattle.upp_curve.specs.affine_segment.Reading.{read}
use Rattle.upp_curve.specs.Readable.{EachFits}
use Rattle.upp_curve.specs.Shapes.{PiecesRise}
use Rattle.upp_curve.proofs.RisingCurves.{IsEnd}
use Rattle.upp_curve.proofs.CurveShapes.{free_fits, free_end, end_is, rising_answer}
use Rattle.upp_curve.proofs.curve.Curve.is_rising.Goals as goal

pub rise_to-requires-in_default : goal.rise_to-requires-in_default
rise_to-requires-in_default c =
    subst (EachFits None) (sym c.deref-in_default.ensures.value) (free_fits c.self.inside.pieces.items c.self.inside.tail c.in_default.not-Periodic c.self.invariant.readable)

pub returns-in-Periodic : goal.returns-in-Periodic
returns-in-Periodic c =
    let p = c.in-Periodic in
    let ps = c.self.inside.pieces.items in
    let end = end_is ps p.rank p.period p.rise c.period_end-end.result c.period_end-end.ensures.x (c.period_end-end.ensures.at ∙ ap (λ z. read z p.rank +ₑ Fin p.rise) c.deref.ensures.value) in
    rising_answer c.args.self.now ps c.self.inside.tail (Some c.period_end-end.result) c.rise_to.result c.self.view_is c.self.invariant
    (subst (λ z. IsEnd ps z (Some c.period_end-end.result)) (sym p.is) end)
    (subst (λ z. IsTrue c.rise_to.result ↔ PiecesRise (Some c.period_end-end.result) z) c.deref-in-Periodic.ensures.value c.rise_to.ensures)

pub returns-in_default : goal.returns-in_default
returns-in_default c =
    rising_answer c.args.self.now c.self.inside.pieces.items c.self.inside.tail None c.rise_to-in_default.result c.self.view_is c.self.invariant
    (free_end c.self.inside.pieces.items c.self.inside.tail c.in_default.not-Periodic)
    (subst (λ z. IsTrue c.rise_to-in_default.result ↔ PiecesRise None z) c.deref-in_default.ensures.value c.rise_to-in_default.ensures)
