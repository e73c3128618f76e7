-- The simulation gauge, from the sizes of the numbers that were gathered.
use Rattle.std.proofs.Common.{◌≡◌, ap}
use Rattle.std.specs.Prelude.{pos}
use Rattle.rational.specs.Rational.{int}
use Rattle.upp_limits.specs.Limits.{joined, value_alone, sizes_of, gauge_of}
use Rattle.net_model.specs.Networks.{Net}
use Rattle.net_model.specs.Traces.{SpecTrace}
use Rattle.net_model.specs.stated_runs.FromTraces.{setup_of}
use Rattle.sim_bounds.specs.Horizons.{horizon}
use Rattle.sim_bounds.specs.Gauge.{rates_of, common_num, simulation_numbers, total_bits, simulation_gauge}
use Rattle.sim_bounds.specs.window_numbers.Rated.{gauge_with}
use Rattle.sim_bounds.proofs.window_numbers.Products.{sizes_with}

pub gauge_is : (net : Net) (trace : SpecTrace)
    → gauge_with (common_num (rates_of net)) (sizes_of (horizon (setup_of net trace)) (joined (simulation_numbers net trace) (value_alone (int (pos (total_bits trace))))))
    ≡ simulation_gauge net trace
unfolding simulation_gauge gauge_of gauge_with
gauge_is net trace = ap (gauge_with (common_num (rates_of net))) (sizes_with (horizon (setup_of net trace)) (simulation_numbers net trace) (total_bits trace))
