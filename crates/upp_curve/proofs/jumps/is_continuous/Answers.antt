use Rattle.std.proofs.Common.{sym, subst, ap, ◌∙◌, refl, Some, None, ◌↔◌, IsTrue}
use Rattle.rational.specs.Extended.{◌+ₑ◌}
use Rattle.rational.specs.declared.Extended.TheVariants.{Fin}
use Rattle.upp_curve.specs.affine_segment.Reading.{read}
use Rattle.upp_curve.specs.Readable.{EachFits}
use Rattle.upp_curve.specs.JoinedPieces.{PiecesJoin}
use Rattle.upp_curve.proofs.RisingCurves.{IsEnd}
use Rattle.upp_curve.proofs.CurveShapes.{free_fits, free_end, end_is}
use Rattle.upp_curve.proofs.Joins.{continuous_answer}
use Rattle.upp_curve.proofs.jumps.is_continuous.Goals as goal

pub join_to-requires-in_default : goal.join_to-requires-in_default
join_to-requires-in_default c =
    let k = c.args.c.now in
    subst (EachFits None) (sym c.pieces-pieces.ensures.pieces) (free_fits k.pieces k.tail (λ x y z e. c.in_default.not-Periodic x y z (c.tail.ensures.tail ∙ e)) c.tail.ensures.kept.readable)

pub returns-in-Periodic : goal.returns-in-Periodic
returns-in-Periodic c =
    let k = c.args.c.now in
    let p = c.in-Periodic in
    let end = end_is k.pieces p.rank p.period p.rise c.period_end-end.result c.period_end-end.ensures.x (c.period_end-end.ensures.at ∙ ap (λ z. read z p.rank +ₑ Fin p.rise) c.pieces-pieces.ensures.pieces) in
    continuous_answer k k.pieces k.tail (Some c.period_end-end.result) c.join_to.result refl c.tail.ensures.kept.normal
    (subst (λ z. IsEnd k.pieces z (Some c.period_end-end.result)) (sym p.is ∙ c.tail.ensures.tail) end) c.requires
    (subst (λ z. IsTrue c.join_to.result ↔ PiecesJoin (Some c.period_end-end.result) z) c.pieces-pieces.ensures.pieces c.join_to.ensures)

pub returns-in_default : goal.returns-in_default
returns-in_default c =
    let k = c.args.c.now in
    continuous_answer k k.pieces k.tail None c.join_to-in_default.result refl c.tail.ensures.kept.normal
    (free_end k.pieces k.tail (λ x y z e. c.in_default.not-Periodic x y z (c.tail.ensures.tail ∙ e))) c.requires
    (subst (λ z. IsTrue c.join_to-in_default.result ↔ PiecesJoin None z) c.pieces-pieces.ensures.pieces c.join_to-in_default.ensures)
