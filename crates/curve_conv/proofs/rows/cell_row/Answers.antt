use Rattle.curve_conv.specs.Stretches.{PartPair, part_pair_sum}
use Rattle.curve_conv.proofs.Families.{both_ahead}
use Rattle.curve_conv.proofs.rows.cell_row.Goals as goal

pub lower-requires : goal.lower-requires
lower-requires c =
    let w = c.requires.room in
    (w.0, w.1, w.2, c.part_pair-first.ensures.sizes w.0 w.1 w.2 w.3 w.4, c.part_pair-second.ensures.sizes w.0 w.1 w.2 w.3 w.5)

pub returns-clause-ahead : goal.returns-clause-ahead
returns-clause-ahead c end =
    both_ahead (PartPair c.args.a.now c.args.point.now) (PartPair c.args.a.now c.args.after.now) (part_pair_sum c.args.a.now c.args.point.now) (part_pair_sum c.args.a.now c.args.after.now) end c.args.t
    c.part_pair-first.result c.part_pair-second.result c.lower.result (c.part_pair-first.ensures.ahead end) (c.part_pair-second.ensures.ahead end) c.lower.ensures.goes c.lower.ensures.next

pub returns-clause-sizes : goal.returns-clause-sizes
returns-clause-sizes c z end T A P Q = c.lower.ensures.sizes z end T (c.part_pair-first.ensures.sizes z end T A P) (c.part_pair-second.ensures.sizes z end T A Q)
