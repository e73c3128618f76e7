use Rattle.std.proofs.Common.{◌+◌, drop, drop_of_length-le, refl}
use Rattle.upp_curve.proofs.affine_segment.NextPiece.{next_piece}
use Rattle.subadd_closure.proofs.ThinnedElements.{under_more, under_stops, under_ends}
use Rattle.rational.proofs.Compared.{least_by_test}
use Rattle.subadd_closure.proofs.thinned.all_under.Goals as goal

pub loop-p-preserved : goal.loop-p-preserved
loop-p-preserved c =
    let ps = c.args.pieces.now in
    let i = c.loop-p.p-index in
    let p = c.p-item.result in
    under_more c.args.line.now c.args.from c.args.to p (drop i ps) (drop (i + 1) ps) ps
    (next_piece p ps i c.loop-p-test.true c.p-item.is) (c.if-not-is_less.ensures.less.0 refl)
    (c.if-not-lies_under.ensures refl) c.loop-p.invariant

pub returns-then-not-is_less : goal.returns-then-not-is_less
returns-then-not-is_less c h =
    let ps = c.args.pieces.now in
    let i = c.loop-p.p-index in
    let p = c.p-item.result in
    under_stops c.args.line.now c.args.from c.args.to p (drop i ps) (drop (i + 1) ps) ps
    (next_piece p ps i c.loop-p-test.true c.p-item.is) (least_by_test p.x c.args.to c.if-not-is_less.ensures.less)
    c.loop-p.invariant

pub returns : goal.returns
returns c h =
    let ps = c.args.pieces.now in
    let i = c.loop-p.p-index in
    under_ends c.args.line.now c.args.from c.args.to (drop i ps) ps (drop_of_length-le ps c.loop-p-test.false) c.loop-p.invariant
