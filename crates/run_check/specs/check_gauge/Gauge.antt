-- The gauge of a recorded run of a network: where it is below 2 ^ 120, no number of a check of the run is too wide.
-- (Own choice.)
use Rattle.std.specs.Prelude.{ℕ, max, pos, List, ◌∷◌, ◌++◌, map}
use Rattle.rational.specs.Rational.{ℚ, int, ◌+ℚ◌, ◌*ℚ◌}
use Rattle.rational.specs.Gauge.{common_den, bound_of}
use Rattle.min_plus.specs.WholeUp.{whole_up}
use Rattle.upp_limits.specs.Limits.{Numbers, Sizes, joined, twice, gauge_of}
use Rattle.run_laws.specs.Runs.{SpecRun}
use Rattle.net_model.specs.Networks.{Net, NetServer}
use Rattle.sim_bounds.specs.Horizons.{latest_of}
use Rattle.sim_bounds.specs.Gauge.{numbers_of_curves, curves_of, rates_of}
use Rattle.run_check.specs.check_gauge.Runs.{times_of, last_time, total_bits, works_of, paces_of}

abbrev pub links_of : Net → List ℚ
links_of net = map (λ (s : NetServer). s.link) net.servers

-- 0 where there is no server
abbrev pub largest_link : Net → ℚ
largest_link net = latest_of (λ (s : NetServer). s.link) net.servers

-- the times of the run and the links; the bits of works; the rates, and the paces of works
abbrev pub named_numbers : Net → SpecRun → Numbers
named_numbers net run = record {
  times = last_time run ∷ run.end ∷ links_of net ++ times_of run.steps;
  values = works_of run.steps;
  slopes = rates_of net ++ paces_of run.steps;
}

-- what counts: these, and of all curves the pieces that start at the last time or before
abbrev pub check_numbers : Net → SpecRun → Numbers
check_numbers net run = joined (named_numbers net run) (numbers_of_curves (last_time run) (curves_of net))

-- the latest time that a check may meet: where a packet leaves at the last time, it is on a link that long
abbrev pub farthest : Net → SpecRun → ℚ
farthest net run = last_time run +ℚ largest_link net

-- the least common denominators; the least whole number that is at least 1 and twice the size of each slope; and the
-- least that is at least 1, the size of each value, the bits of all packets, and the steepness times the farthest time
abbrev pub sizes_to : ℚ → ℕ → Numbers → Sizes
sizes_to far bits n = record {
  dv = common_den n.values;
  dt = common_den n.times;
  ds = common_den n.slopes;
  steepness = bound_of (twice n.slopes);
  largest = max (max (bound_of n.values) bits) (whole_up (int (pos (bound_of (twice n.slopes))) *ℚ far));
}

abbrev pub check_sizes : Net → SpecRun → Sizes
check_sizes net run = sizes_to (farthest net run) (total_bits run.steps) (check_numbers net run)

unfoldable pub check_gauge : Net → SpecRun → ℕ
check_gauge net run = gauge_of (check_sizes net run)
