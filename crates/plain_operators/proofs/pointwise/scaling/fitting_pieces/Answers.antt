use Rattle.plain_operators.proofs.pointwise.FittingLoop.{fitting_here, fitting_step, fitting_end}
use Rattle.plain_operators.proofs.pointwise.scaling.fitting_pieces.Goals as goal

pub fitting_piece-requires : goal.fitting_piece-requires
fitting_piece-requires c = fitting_here c.args.factor c.args.pieces.now c.loop-piece.found.items c.loop-piece.piece-index c.piece-item.result c.loop-piece.invariant c.loop-piece-test.true c.piece-item.is

pub loop-piece-preserved : goal.loop-piece-preserved
loop-piece-preserved c =
    fitting_step c.args.factor c.args.pieces.now c.loop-piece.found.items _ c.loop-piece.piece-index c.piece-item.result c.fitting_piece.result c.loop-piece.invariant c.loop-piece-test.true c.piece-item.is c.fitting_piece.ensures c.in_ok-push.ensures.items

pub returns : goal.returns
returns c = fitting_end c.args.factor c.args.pieces.now c.loop-piece.found.items c.loop-piece.piece-index c.loop-piece.invariant c.loop-piece-test.false
