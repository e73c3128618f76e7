use Rattle.std.proofs.Common.{◌*◌, ◌<◌, ◌^◌, ◌≤◌, arith, refl, subst, sym}
use Rattle.std.proofs.lemmas.Bool.{leb-true, le-leb}
use Rattle.upp_limits.specs.Limits.{sizes_of}
use Rattle.upp_limits.proofs.CurveStands.{are_sizes}
use Rattle.upp_limits.proofs.GaugeProduct.{gathered_steep, gathered_far, gathered_largest}
use Rattle.rational.proofs.Gauges.{kept_times}
use Rattle.rational.specs.Gauge.{Kept}
use Rattle.sim_bounds.specs.window_numbers.Rated.{gauge_with}
use Rattle.sim_bounds.proofs.window_numbers.Products.{wide_sizes}
use Rattle.sim_bounds.proofs.window_numbers.wide.is_over.Goals as goal

pub returns-then-g-eq340282366920938463463374607431768211455 : goal.returns-then-g-eq340282366920938463463374607431768211455
returns-then-g-eq340282366920938463463374607431768211455 c = λ n r h k.
    let z = sizes_of c.args.end n in
    let wide = wide_sizes r z k.some (gathered_steep c.args.g c.args.end n (are_sizes c.args.end n) h c.if-g-eq340282366920938463463374607431768211455.true) in
    (λ t. wide, λ t. refl)

pub returns-in-None : goal.returns-in-None
returns-in-None c = λ n r h k.
    let z = sizes_of c.args.end n in
    let wide = wide_sizes r z k.some
    (gathered_far c.args.g c.args.end n (are_sizes c.args.end n) h c.if-g-eq340282366920938463463374607431768211455.false c.in-None.ensures.nonneg c.in-None.ensures.big) in
    (λ t. wide, λ t. refl)

pub returns-in-None-product : goal.returns-in-None-product
unfolding gauge_with
returns-in-None-product c = λ n r h k.
    let z = sizes_of c.args.end n in
    let small : c.in-Some.far < 2 ^ 128 = omega arith in
    let big = c.in-None-product.ensures z.largest z.steepness z.dv (z.dt * r) z.ds
    (gathered_largest c.args.g c.args.end n c.in-Some.far c.max.result h c.if-g-eq340282366920938463463374607431768211455.false c.in-Some.ensures.value small c.max.ensures)
    h.steepness h.dv (subst (λ m. Kept m (z.dt * r)) (sym c.saturating_mul-grid.ensures) (kept_times c.args.g.dt c.args.rates z.dt r h.dt k)) h.ds in
    (λ t. omega (arith, big), λ t. refl)

pub returns-in-Some-product : goal.returns-in-Some-product
unfolding gauge_with
returns-in-Some-product c = λ n r h k.
    let z = sizes_of c.args.end n in
    let small : c.in-Some.far < 2 ^ 128 = omega arith in
    let is = c.in-Some-product.ensures z.largest z.steepness z.dv (z.dt * r) z.ds
    (gathered_largest c.args.g c.args.end n c.in-Some.far c.max.result h c.if-g-eq340282366920938463463374607431768211455.false c.in-Some.ensures.value small c.max.ensures)
    h.steepness h.dv (subst (λ m. Kept m (z.dt * r)) (sym c.saturating_mul-grid.ensures) (kept_times c.args.g.dt c.args.rates z.dt r h.dt k)) h.ds in (
      λ t. subst (λ g. 2 ^ 120 ≤ g) is (leb-true (2 ^ 120) c.in-Some-product.gauge t),
      λ t. le-leb (2 ^ 120) c.in-Some-product.gauge (subst (λ g. 2 ^ 120 ≤ g) (sym is) t),
    )
