use Rattle.std.proofs.Common.{◌≡◌, ◌≤◌, ◌+◌, ◌∙◌, arith, sym, length, drop, drop_of_length-le}
use Rattle.upp_curve.specs.Unrolled.{upto}
use Rattle.upp_curve.proofs.affine_segment.NextPiece.{next_piece}
use Rattle.upp_normal.proofs.NormaliseLoops.{count_more, count_stops, count_ends}
use Rattle.upp_normal.proofs.two_periods.count_before.Goals as goal

pub returns-in_default : goal.returns-in_default
returns-in_default c =
    let p = c.index-pieces-i.result in
    let ps = c.args.pieces.now in
    let i = c.loop-i.i in
    count_stops c.args.t p _ (drop (i + 1) ps) (upto c.args.t ps) i c.cmp.result (next_piece p ps i c.loop-i-test.true c.index-pieces-i.is) c.cmp.ensures.is c.in_default.not-Less c.loop-i.invariant

pub loop-i-preserved : goal.loop-i-preserved
loop-i-preserved c =
    let p = c.index-pieces-i.result in
    let ps = c.args.pieces.now in
    let i = c.loop-i.i in
    count_more c.args.t p _ (drop (i + 1) ps) (upto c.args.t ps) i c.cmp.result (next_piece p ps i c.loop-i-test.true c.index-pieces-i.is) c.cmp.ensures.is c.in-Less.is c.loop-i.invariant

pub returns : goal.returns
returns c =
    let ps = c.args.pieces.now in
    let far : length ps ≤ c.loop-i.i = c.loop-i-test.false in
    let end : c.loop-i.i ≡ length ps = omega (arith, far, c.loop-i.auto) in
    sym end ∙ count_ends c.args.t (drop c.loop-i.i ps) (upto c.args.t ps) c.loop-i.i (drop_of_length-le ps far) c.loop-i.invariant
