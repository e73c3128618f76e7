use Rattle.std.proofs.Common.{arith}
use Rattle.upp_limits.proofs.CallSizes.{narrow_by_gauge}
use Rattle.upp_limits.proofs.call_sizes.exact_grids.Goals as goal

pub returns-in-Some : goal.returns-in-Some
returns-in-Some c = let a = c.args in narrow_by_gauge a.op.now a.f.now a.g.now a.end c.in-Some.exact c.grids_below.result c.in-Some.ensures c.grids_below.ensures

pub returns-in-None : goal.returns-in-None
returns-in-None c = let h = c.in-None.ensures in omega (arith, h)
