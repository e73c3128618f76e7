use Rattle.std.proofs.Common.{to_z-of_z}
use Rattle.fraction128.proofs.Added.{whole_parts}
use Rattle.fraction128.proofs.sums.sum_of.Goals as goal

pub returns-then-e-eq1 : goal.returns-then-e-eq1
returns-then-e-eq1 c =
    let fa = c.ranges.a in
    let fb = c.ranges.b in
    whole_parts c.args.a c.args.b c.args.d c.args.e c.whole_sum.result c.if-d-eq1.true c.if-e-eq1.true (simp to_z-of_z at c.whole_sum.ensures)
