use Rattle.element_envelope.proofs.StartTests.{piece_there, line_there}
use Rattle.element_envelope.proofs.one_side.never_fall.Goals as goal

pub is_reached-requires : goal.is_reached-requires
is_reached-requires c =
    let R = c.requires.1 in
    let p = c.p-item.result in
    line_there R.sizes c.requires.0 c.loop-p.before p R.limited (piece_there R.sizes c.requires.0 c.args.pieces.now c.loop-p.p-index p c.loop-p-test.true c.p-item.is R.each) (c.loop-p.invariant.1 R.sizes c.requires.0 R.each)
