use Rattle.plain_operators.proofs.running.Middle.{right_fits, left_fits, stretch_is}
use Rattle.plain_operators.proofs.running.stretch.stretch_at.Goals as goal

pub line_at-requires : goal.line_at-requires
line_at-requires c = right_fits c.args.ps.now c.args.i c.index-ps-i.result c.line_of-line.result c.args.end c.requires.fits c.requires.index c.index-ps-i.is
    c.line_of-line.ensures

pub line_at-requires-2 : goal.line_at-requires-2
line_at-requires-2 c =
    left_fits c.args.ps.now c.args.i c.index-ps-i.result c.line_of-line.result c.args.end c.start_of-to.result c.requires.fits c.requires.index c.index-ps-i.is
    c.line_of-line.ensures c.start_of-to.ensures

pub returns : goal.returns
returns c =
    let p = c.index-ps-i.result in
    stretch_is c.args.ps.now c.args.i p c.args.end c.number_of.result c.start_of-to.result c.line_at.result c.line_at-2.result c.line_of-line.result
    c.requires.window c.requires.index
    c.index-ps-i.is c.number_of.ensures c.line_of-line.ensures c.start_of-to.ensures c.line_at.ensures c.line_at-2.ensures
    (right_fits c.args.ps.now c.args.i p c.line_of-line.result c.args.end c.requires.fits c.requires.index c.index-ps-i.is c.line_of-line.ensures)
    (left_fits c.args.ps.now c.args.i p c.line_of-line.result c.args.end c.start_of-to.result c.requires.fits c.requires.index c.index-ps-i.is c.line_of-line.ensures
    c.start_of-to.ensures)
