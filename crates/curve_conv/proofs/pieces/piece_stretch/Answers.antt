use Rattle.curve_conv.proofs.PieceStretches.{reads_fit, pieces_go, pieces_stand}
use Rattle.curve_conv.proofs.pieces.piece_stretch.Goals as goal

pub plain_stretch-requires-clause-starts : goal.plain_stretch-requires-clause-starts
plain_stretch-requires-clause-starts c = c.requires.3.starts

pub plain_stretch-requires-clause-time : goal.plain_stretch-requires-clause-time
plain_stretch-requires-clause-time c = c.requires.2.start.nonneg

pub plain_stretch-requires-clause-fits : goal.plain_stretch-requires-clause-fits
plain_stretch-requires-clause-fits c = let w = c.requires in reads_fit w.0 w.1 c.args.pieces.now c.args.t w.2 w.3

pub returns-clause-goes : goal.returns-clause-goes
returns-clause-goes c =
    let w = c.requires in
    let made = c.plain_stretch.ensures in
    pieces_go c.args.pieces.now c.args.t c.plain_stretch.result w.3.starts w.2.start.nonneg made.at made.line made.next

pub returns-clause-sizes : goal.returns-clause-sizes
returns-clause-sizes c z end T W =
    let made = c.plain_stretch.ensures in
    pieces_stand z end c.args.pieces.now c.args.t c.plain_stretch.result T W made.at made.line made.next
