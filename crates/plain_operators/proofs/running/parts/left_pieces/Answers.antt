use Rattle.plain_operators.specs.running.Parts.{left_piece, StretchLeftFits}
use Rattle.plain_operators.proofs.running.PartsLoop.{part_here, part_step, parts_end}
use Rattle.plain_operators.proofs.running.parts.left_pieces.Goals as goal

pub left_piece-requires : goal.left_piece-requires
left_piece-requires c =
    part_here StretchLeftFits left_piece c.args.stretches.now c.loop-b.b-index c.b-item.result c.loop-b.pieces.items c.loop-b.invariant c.loop-b-test.true c.b-item.is

pub loop-b-preserved : goal.loop-b-preserved
loop-b-preserved c =
    part_step StretchLeftFits left_piece c.args.stretches.now c.loop-b.b-index c.b-item.result c.left_piece.result c.loop-b.pieces.items _ c.loop-b.invariant c.loop-b-test.true c.b-item.is c.left_piece.ensures c.in_ok-push.ensures.items

pub returns : goal.returns
returns c = parts_end StretchLeftFits left_piece c.args.stretches.now c.loop-b.b-index c.loop-b.pieces.items c.loop-b.invariant c.loop-b-test.false
