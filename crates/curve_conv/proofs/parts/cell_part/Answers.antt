use Rattle.rational.specs.Rational.{◌≤ℚ◌}
use Rattle.upp_curve.specs.Curve.{value_at}
use Rattle.curve_conv.specs.Scans.{sizes_in}
use Rattle.curve_conv.specs.Stretches.{PartRow, part_row_sum}
use Rattle.curve_conv.proofs.Families.{both_ahead}
use Rattle.curve_conv.proofs.parts.cell_part.Goals as goal

pub lower-requires : goal.lower-requires
lower-requires c =
    let s = c.args.s.now in
    (sizes_in s.first.now s.second.now s.end, s.end, record { limited = c.requires.scan.first.limited; start = c.requires.time }, c.part_row-first.ensures.sizes, c.part_row-second.ensures.sizes)

pub returns-clause-ahead : goal.returns-clause-ahead
returns-clause-ahead c =
    let s = c.args.s.now in
    both_ahead (PartRow c.args.point.now (λ v. c.args.low ≤ℚ v)) (PartRow c.args.after.now (λ v. c.args.low ≤ℚ v)) (part_row_sum c.args.point.now (value_at s.second.now) (λ v. c.args.low ≤ℚ v))
    (part_row_sum c.args.after.now (value_at s.second.now) (λ v. c.args.low ≤ℚ v)) s.end c.args.t
    c.part_row-first.result c.part_row-second.result c.lower.result c.part_row-first.ensures.ahead c.part_row-second.ensures.ahead c.lower.ensures.goes c.lower.ensures.next

pub returns-clause-sizes : goal.returns-clause-sizes
returns-clause-sizes c =
    let s = c.args.s.now in
    c.lower.ensures.sizes (sizes_in s.first.now s.second.now s.end) s.end record { limited = c.requires.scan.first.limited; start = c.requires.time } c.part_row-first.ensures.sizes c.part_row-second.ensures.sizes
