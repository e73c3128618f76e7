use Rattle.std.proofs.Common.{◌+◌, ap, sym, drop, drop_of_length-le}
use Rattle.upp_normal.specs.Normalising.{past, first_start}
use Rattle.upp_curve.proofs.affine_segment.NextPiece.{next_piece}
use Rattle.upp_normal.proofs.NormaliseLoops.{past_skips, past_found, past_ends}
use Rattle.upp_normal.proofs.two_periods.first_past.Goals as goal

pub returns-in-Greater : goal.returns-in-Greater
returns-in-Greater c =
    let p = c.p-item.result in
    let ps = c.args.pieces.now in
    let i = c.loop-p.p-index in
    sym (past_found c.args.t p _ (drop (i + 1) ps) (past c.args.t ps) c.cmp.result (next_piece p ps i c.loop-p-test.true c.p-item.is) c.cmp.ensures.is c.in-Greater.is c.loop-p.invariant)

pub loop-p-preserved : goal.loop-p-preserved
loop-p-preserved c =
    let p = c.p-item.result in
    let ps = c.args.pieces.now in
    let i = c.loop-p.p-index in
    past_skips c.args.t p _ (drop (i + 1) ps) (past c.args.t ps) c.cmp.result (next_piece p ps i c.loop-p-test.true c.p-item.is) c.cmp.ensures.is c.in_default.not-Greater c.loop-p.invariant

pub returns : goal.returns
returns c = sym (ap first_start (past_ends c.args.t _ (past c.args.t c.args.pieces.now) (drop_of_length-le c.args.pieces.now c.loop-p-test.false) c.loop-p.invariant))
