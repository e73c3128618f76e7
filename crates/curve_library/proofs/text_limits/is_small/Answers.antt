use Rattle.std.proofs.Common.{◌<◌, ◌^◌, arith, subst, sym}
use Rattle.std.proofs.lemmas.Bool.{ltb-true, lt-ltb, true≢false}
use Rattle.upp_limits.specs.Limits.{sizes_of, gauge_of}
use Rattle.upp_limits.proofs.CurveStands.{are_sizes}
use Rattle.upp_limits.proofs.GaugeProduct.{gathered_steep, gathered_far, gathered_largest}
use Rattle.curve_library.proofs.text_limits.is_small.Goals as goal

pub returns-then-g-eq340282366920938463463374607431768211455 : goal.returns-then-g-eq340282366920938463463374607431768211455
returns-then-g-eq340282366920938463463374607431768211455 c = λ n h.
    let big = gathered_steep c.args.g c.args.end n (are_sizes c.args.end n) h c.if-g-eq340282366920938463463374607431768211455.true in
    (λ t. absurd (true≢false (sym t)), λ l. absurd (omega (arith, big, l)))

pub returns-in-Some-product : goal.returns-in-Some-product
unfolding gauge_of
returns-in-Some-product c = λ n h.
    let z = sizes_of c.args.end n in
    let small : c.in-Some.far < 2 ^ 128 = omega arith in
    let is = c.in-Some-product.ensures z.largest z.steepness z.dv z.dt z.ds
    (gathered_largest c.args.g c.args.end n c.in-Some.far c.max.result h c.if-g-eq340282366920938463463374607431768211455.false c.in-Some.ensures.value small c.max.ensures)
    h.steepness h.dv h.dt h.ds in (
      λ t. subst (λ g. g < 2 ^ 120) is (ltb-true c.in-Some-product.gauge (2 ^ 120) t),
      λ l. lt-ltb c.in-Some-product.gauge (2 ^ 120) (subst (λ g. g < 2 ^ 120) (sym is) l),
    )

pub returns-in-None-product : goal.returns-in-None-product
unfolding gauge_of
returns-in-None-product c = λ n h.
    let z = sizes_of c.args.end n in
    let small : c.in-Some.far < 2 ^ 128 = omega arith in
    let big = c.in-None-product.ensures z.largest z.steepness z.dv z.dt z.ds
    (gathered_largest c.args.g c.args.end n c.in-Some.far c.max.result h c.if-g-eq340282366920938463463374607431768211455.false c.in-Some.ensures.value small c.max.ensures)
    h.steepness h.dv h.dt h.ds in
    (λ t. absurd (true≢false (sym t)), λ l. absurd (omega (arith, big, l)))

pub returns-in-None : goal.returns-in-None
returns-in-None c = λ n h.
    let big = gathered_far c.args.g c.args.end n (are_sizes c.args.end n) h c.if-g-eq340282366920938463463374607431768211455.false c.in-None.ensures.nonneg c.in-None.ensures.big in
    (λ t. absurd (true≢false (sym t)), λ l. absurd (omega (arith, big, l)))
