use Rattle.element_envelope.proofs.ElementSizes.{parts_stand}
use Rattle.curve_conv.proofs.PairStretches.{pair_ahead}
use Rattle.curve_conv.proofs.elements.pair_stretch.Goals as goal

pub joined_stretch-requires-clause-room : goal.joined_stretch-requires-clause-room
joined_stretch-requires-clause-room c =
    let w = c.requires.room in
    (w.0, w.1, w.2, parts_stand w.0 w.1 c.args.a.now c.args.b.now c.joined.result w.2.limited w.3 w.4 c.joined.ensures.parts)

pub returns-clause-ahead : goal.returns-clause-ahead
returns-clause-ahead c end = pair_ahead c.args.a.now c.args.b.now c.joined.result end c.args.t c.joined_stretch.result c.joined.ensures.convolved c.joined_stretch.ensures.goes

pub returns-clause-sizes : goal.returns-clause-sizes
returns-clause-sizes c z end T A B = c.joined_stretch.ensures.sizes z end T (parts_stand z end c.args.a.now c.args.b.now c.joined.result T.limited A B c.joined.ensures.parts)
