use Rattle.std.proofs.Common.{arith, pos}
use Rattle.fraction128.proofs.Values.{whole_lowest}
use Rattle.fraction128.proofs.fraction.Frac.zero.Goals as goal

pub invariant_of-result : goal.invariant_of-result
invariant_of-result c = whole_lowest (pos 0) (omega arith)
