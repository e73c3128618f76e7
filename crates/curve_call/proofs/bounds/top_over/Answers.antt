use Rattle.std.proofs.Common.{refl}
use Rattle.curve_call.specs.Bounds.{own_or}
use Rattle.curve_call.proofs.OwnPeriods.{named_top}
use Rattle.curve_call.proofs.bounds.top_over.Goals as goal

pub side_gap-requires : goal.side_gap-requires
side_gap-requires c =
    let (W, Z, T) = c.own_end-end.ensures.windows c.requires.0 c.zero_level.result c.requires.1 c.zero_level.ensures in
    (c.requires.0, W, Z, T)

pub returns-in-Is-clause-largest : goal.returns-in-Is-clause-largest
returns-in-Is-clause-largest c =
    let own = own_or c.args.period c.args.c.now in
    named_top c.args.from c.args.period own c.own_end-end.result c.in-Is.top c.args.c.now c.zero_level.result refl c.own_end-end.ensures.end c.zero_level.ensures c.in-Is.ensures.gap

pub returns-in-Is-clause-sizes : goal.returns-in-Is-clause-sizes
returns-in-Is-clause-sizes c = λ z L.
    let (W, Z, T) = c.own_end-end.ensures.windows z c.zero_level.result L c.zero_level.ensures in
    c.in-Is.ensures.sizes z W Z T
