use Rattle.std.proofs.Common.{arith, ◌<◌, ◌^◌}
use Rattle.upp_limits.specs.Limits.{sizes_of, gauge_of}
use Rattle.upp_limits.proofs.CurveStands.{are_sizes}
use Rattle.upp_limits.proofs.GaugeProduct.{gathered_steep, gathered_far, gathered_largest}
use Rattle.upp_limits.proofs.gauges.gauge_of.Goals as goal

pub returns-then-g-eq340282366920938463463374607431768211455 : goal.returns-then-g-eq340282366920938463463374607431768211455
returns-then-g-eq340282366920938463463374607431768211455 c =
    λ n h. gathered_steep c.args.g c.args.end n (are_sizes c.args.end n) h c.if-g-eq340282366920938463463374607431768211455.true

pub returns-in-Some : goal.returns-in-Some
unfolding gauge_of
returns-in-Some c = λ n h.
    let z = sizes_of c.args.end n in
    let small : c.in-Some.far < 2 ^ 128 = omega arith in
    c.product.ensures z.largest z.steepness z.dv z.dt z.ds
    (gathered_largest c.args.g c.args.end n c.in-Some.far c.max.result h c.if-g-eq340282366920938463463374607431768211455.false c.in-Some.ensures.value small c.max.ensures)
    h.steepness h.dv h.dt h.ds

pub returns-in-None : goal.returns-in-None
returns-in-None c = λ n h.
    gathered_far c.args.g c.args.end n (are_sizes c.args.end n) h c.if-g-eq340282366920938463463374607431768211455.false c.in-None.ensures.nonneg c.in-None.ensures.big
