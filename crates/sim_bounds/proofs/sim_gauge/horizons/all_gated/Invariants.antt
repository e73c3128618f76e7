use Rattle.std.proofs.Common.{◌≡◌}
use Rattle.std.specs.List.{AllByRecursion}
use Rattle.arrayvec.specs.ArrayVec.{array_vec_len}
use Rattle.fraction128.specs.wide_sums.Sums.{IsFromZero, sum_of_products}
use Rattle.net_model.specs.stated_runs.FromTraces.{setup_of}
use Rattle.sim_bounds.specs.Horizons.{sum_below}
use Rattle.sim_bounds.specs.Way.{gated}
use Rattle.sim_bounds.proofs.sim_gauge.horizons.all_gated.Given as goal

abbrev pub invariant-loop-server : goal.invariant-loop-server
invariant-loop-server l = record {
  value : sum_of_products l.products.items ≡ sum_below (gated (setup_of l.net l.trace)) l.server;
  from_zero : AllByRecursion IsFromZero l.products.items;
  len : array_vec_len l.products ≡ l.server;
}
