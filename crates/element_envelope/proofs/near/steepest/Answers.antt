use Rattle.std.proofs.Common.{◌+◌, drop, drop_of_length-le, subst, sym}
use Rattle.rational.proofs.Laws.{le_refl}
use Rattle.upp_curve.proofs.affine_segment.NextPiece.{next_piece}
use Rattle.upp_curve.specs.affine_segment.Pieces.{Each}
use Rattle.element_envelope.specs.NearStarts.{RisesWithin}
use Rattle.element_envelope.proofs.Growth.{steeper}
use Rattle.element_envelope.proofs.StartTests.{piece_there, line_there}
use Rattle.element_envelope.proofs.near.steepest.Goals as goal

pub plain_slope-requires : goal.plain_slope-requires
plain_slope-requires c =
    let R = c.requires.1 in
    let P = piece_there R.sizes c.requires.0 c.args.pieces.now c.loop-p.p-index c.p-item.result c.loop-p-test.true c.p-item.is R.each in
    line_there R.sizes c.requires.0 c.p-item.result.line c.p-item.result R.limited P P.line

pub loop-p-preserved : goal.loop-p-preserved
loop-p-preserved c =
    let p = c.p-item.result in
    let i = c.loop-p.p-index in
    let all = c.args.pieces.now in
    steeper p (drop i all) (drop (i + 1) all) all c.loop-p.most c.in-Some.slope c.larger-most.result (next_piece p all i c.loop-p-test.true c.p-item.is) c.in-Some.ensures c.larger-most.ensures.first
    c.larger-most.ensures.second c.loop-p.invariant

pub returns : goal.returns
returns c =
    c.loop-p.invariant c.loop-p.most (le_refl c.loop-p.most)
    (subst (Each (RisesWithin c.loop-p.most)) (sym (drop_of_length-le c.args.pieces.now c.loop-p-test.false)) tt)
