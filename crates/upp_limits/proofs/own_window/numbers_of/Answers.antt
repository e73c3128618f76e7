use Rattle.std.proofs.Common.{arith, refl, subst, ◌*◌, ◌<◌, ◌^◌}
use Rattle.rational.specs.Gauge.{Kept}
use Rattle.rational.proofs.Gauges.{kept_times}
use Rattle.upp_limits.specs.Limits.{sizes_of}
use Rattle.upp_limits.proofs.CurveStands.{are_sizes}
use Rattle.upp_limits.proofs.NarrowSizes.{narrow_gauge, grids_narrow}
use Rattle.upp_limits.proofs.GaugeProduct.{kept_small}
use Rattle.upp_limits.proofs.own_window.numbers_of.Goals as goal

pub returns-in-Some : goal.returns-in-Some
returns-in-Some c = λ n h.
    let g = c.args.g in
    let end = c.args.end in
    let z = sizes_of end n in
    let a = are_sizes end n in
    let is = c.in-Some.ensures n h in
    let fits : c.in-Some.gauge < 2 ^ 128 = omega arith in
    let small = grids_narrow z end (2 ^ 122) a (narrow_gauge z end a (subst (λ k. k < 2 ^ 128) is fits)) in
    let two : Kept c.saturating_mul.result (z.dv * z.dt) = rw c.saturating_mul.ensures (kept_times g.dv g.dt z.dv z.dt h.dv h.dt) in
    let three : Kept c.saturating_mul-in-Some.result (z.dv * z.dt * z.ds) = rw c.saturating_mul-in-Some.ensures (kept_times c.saturating_mul.result g.ds (z.dv * z.dt) z.ds two h.ds) in
    record {
      end = refl;
      gauge = is;
      times = kept_small g.dt z.dt h.dt small.0;
      values = kept_small c.saturating_mul-in-Some.result (z.dv * z.dt * z.ds) three small.1;
    }
