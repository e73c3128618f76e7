use Rattle.std.specs.Prelude.{None}
use Rattle.std.proofs.Common.{sym, subst}
use Rattle.curve_conv.specs.Stretches.{IsAhead, PartPair, part_pair_sum, OperandPart}
use Rattle.curve_conv.proofs.PairStretches.{none_ahead}
use Rattle.curve_conv.proofs.elements.part_pair.Goals as goal

pub pair_stretch-requires-clause-room : goal.pair_stretch-requires-clause-room
pair_stretch-requires-clause-room c = let w = c.requires.room in (w.0, w.1, w.2, w.3, subst (OperandPart w.0 w.1) c.in-Some.is w.4)

pub returns-in-None-clause-ahead : goal.returns-in-None-clause-ahead
returns-in-None-clause-ahead c end =
    rw (c.in-None.is, c.nothing.ensures) (none_ahead (PartPair c.args.a.now None) (part_pair_sum c.args.a.now None) end c.args.t (λ u i. i))

pub returns-in-Some-clause-ahead : goal.returns-in-Some-clause-ahead
returns-in-Some-clause-ahead c end =
    subst (λ o. IsAhead (PartPair c.args.a.now o) (part_pair_sum c.args.a.now o) end c.args.t c.pair_stretch.result) (sym c.in-Some.is) (c.pair_stretch.ensures.ahead end)

pub returns-in-Some-clause-sizes : goal.returns-in-Some-clause-sizes
returns-in-Some-clause-sizes c z end T A B = c.pair_stretch.ensures.sizes z end T A (subst (OperandPart z end) c.in-Some.is B)
