use Rattle.std.proofs.Common.{arith, ap, sym, subst, ◌∙◌, ◌≡◌, ◌<◌, length}
use Rattle.upp_curve.specs.affine_segment.Reading.{read}
use Rattle.upp_curve.specs.Curves.{IsCurve}
use Rattle.upp_normal.specs.Normalising.{HasValues}
use Rattle.upp_normal.proofs.NormaliseForm.{infinite_form, affine_form, last_read}
use Rattle.upp_curve.proofs.affine_segment.PieceOrder.{zero_some}
use Rattle.upp_normal.proofs.NormaliseWhole.{curve_of, infinite_curve, affine_curve}
use Rattle.upp_normal.proofs.raw_curve.unending.Goals as goal
use Rattle.upp_normal.proofs.raw_curve.unending.Goals.{in-None, in-Some}

pub from_normal-requires : goal.from_normal-requires
from_normal-requires c =
    let ps = c.args.pieces.items in let last = c.index-last.result.now in
    let n : c.len.result ≡ length ps = omega arith in
    let some : 0 < c.len.result = subst (λ m. 0 < m) (sym n) (zero_some ps c.requires.starts) in
    let L = last_read ps last c.len.result c.requires.starts c.requires.none n some c.index-last.ensures in
    elim c.match-last.branch [
      | in-None w ↦ subst (λ k. IsCurve (curve_of ps k)) (sym w.tail-is) (infinite_curve ps last c.requires.starts c.requires.none L c.requires.fits w.in-None.is)
      | in-Some w ↦ subst (λ k. IsCurve (curve_of ps k)) (sym w.tail-is) (affine_curve ps last w.in-Some.field-0 c.requires.starts c.requires.none L c.requires.fits w.in-Some.is)
    ]

pub returns : goal.returns
returns c =
    let ps = c.args.pieces.items in let last = c.index-last.result.now in
    let n : c.len.result ≡ length ps = omega arith in
    let some : 0 < c.len.result = subst (λ m. 0 < m) (sym n) (zero_some ps c.requires.starts) in
    let L = last_read ps last c.len.result c.requires.starts c.requires.none n some c.index-last.ensures in
    elim c.match-last.branch [
      | in-None w ↦ subst (λ s. HasValues s (read ps)) (sym (c.from_normal.ensures ∙ ap (curve_of ps) w.tail-is)) (infinite_form ps last c.requires.starts c.requires.none L w.in-None.is).same
      | in-Some w ↦ subst (λ s. HasValues s (read ps)) (sym (c.from_normal.ensures ∙ ap (curve_of ps) w.tail-is)) (affine_form ps last w.in-Some.field-0 c.requires.starts c.requires.none L w.in-Some.is).same
    ]
