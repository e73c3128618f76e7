use Rattle.std.proofs.Common.{arith}
use Rattle.upp_limits.proofs.CoveredCalls.{grids_told}
use Rattle.upp_limits.proofs.Lengths.{coarse_product}
use Rattle.upp_limits.proofs.call_sizes.grids_of.Goals as goal

pub overflow_mul-values-3 : goal.overflow_mul-values-3
overflow_mul-values-3 c =
    let g = c.args.found.now in
    let less = coarse_product g.dv g.dt g.ds c.if-found-ge-COARSE.false c.if-found-ge-COARSE-2.false c.if-found-ge-COARSE-3.false in
    omega (arith, less)

pub returns-then-is_narrow : goal.returns-then-is_narrow
returns-then-is_narrow c = λ n h.
    let g = c.args.found.now in
    grids_told g n c.args.end c.numerator_size-top.result c.max-largest.result h c.if-found-ge-COARSE.false c.if-found-ge-COARSE-2.false c.if-found-ge-COARSE-3.false
    c.if-found-ge-LONG.false c.numerator_size-top.ensures.value c.max-largest.ensures (c.is_narrow.ensures c.if-is_narrow.true)
