use Rattle.std.proofs.Common.{◌∙◌, to_z-of_z}
use Rattle.fraction128.proofs.Compared.{cmp_one_den}
use Rattle.fraction128.proofs.order.compare_signed.Goals as goal

pub returns-then-d-e : goal.returns-then-d-e
returns-then-d-e c =
    let fa = c.ranges.a in
    let fb = c.ranges.b in
    (simp to_z-of_z at c.cmp.ensures) ∙ cmp_one_den c.args.a c.args.b c.args.d c.args.e c.requires.right c.if-d-e.true
