use Rattle.std.proofs.Common.{to_z-of_z}
use Rattle.fraction128.proofs.Values.{whole_lowest}
use Rattle.fraction128.proofs.fraction.Frac.from_whole.Goals as goal

pub invariant_of-result : goal.invariant_of-result
invariant_of-result c = let fits = c.ranges.n in simp to_z-of_z (whole_lowest c.args.n c.requires)
