use Rattle.element_envelope.proofs.RunningWindows.{only_there, ok_line}
use Rattle.element_envelope.proofs.running.only_line.Goals as goal

pub line_above-requires : goal.line_above-requires
line_above-requires c = only_there c.requires.0 c.args.pieces.now c.index-pieces-0.result c.index-pieces-0.is c.if-pieces-ne1.false c.requires.1

pub returns : goal.returns
returns c = ok_line c.line_above.result c.args.pieces.now c.index-pieces-0.result c.if-pieces-ne1.false c.index-pieces-0.is c.line_above.ensures
