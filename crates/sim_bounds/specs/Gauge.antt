-- The simulation gauge of a network and a trace. Where it is below 2 ^ 120, no number of a simulation is too wide. (Own
-- choice.)
use Rattle.std.specs.Prelude.{Option, Some, None, ℕ, ◌*◌, max, pos, nat_abs, Bool, ◌&&◌, List, [], ◌∷◌, ◌++◌, map, filter, sum_by}
use Rattle.std.specs.List.{flat_map}
use Rattle.rational.specs.Rational.{ℚ, int, ◌+ℚ◌, ◌*ℚ◌, le_q}
use Rattle.rational.specs.Gauge.{common_den, bound_of, lcm}
use Rattle.min_plus.specs.WholeUp.{whole_up}
use Rattle.upp_curve.specs.Curve.{SpecCurve}
use Rattle.upp_limits.specs.Spans.{Span, spans_below}
use Rattle.upp_limits.specs.Limits.{Numbers, Sizes, no_numbers, joined, curve_numbers, span_values, span_slopes, twice, gauge_of}
use Rattle.net_model.specs.declared.trace.TracePacket.{TracePacket}
use Rattle.net_model.specs.declared.trace.Stall.{Stall}
use Rattle.net_model.specs.Networks.{Net, NetServer, NetFlow}
use Rattle.net_model.specs.Traces.{SpecTrace}
use Rattle.net_model.specs.stated_runs.Setups.{GateTimes}
use Rattle.net_model.specs.stated_runs.FromTraces.{gate_of, setup_of}
use Rattle.sim_bounds.specs.Horizons.{horizon}

-- ---- curves
abbrev pub starts_at : ℚ → Span → Bool
starts_at t s = le_q s.piece.x t && le_q t s.piece.x

-- the unrolled piece of a curve that starts at a time, if one does
abbrev pub spans_at : SpecCurve → ℚ → List Span
spans_at c t = filter (starts_at t) (spans_below c (t +ℚ int (pos 1)))

-- a curve's rank, period and rise, the starts of all its pieces, and the values and slopes of its unrolled pieces that
-- start before `end` or there
abbrev pub numbers_to : ℚ → SpecCurve → Numbers
numbers_to end c = joined (curve_numbers end c) record {
  times = map (λ p. p.x) c.pieces;
  values = flat_map span_values (spans_at c end);
  slopes = flat_map span_slopes (spans_at c end);
}

abbrev pub numbers_of_curves : ℚ → List SpecCurve → Numbers
numbers_of_curves end [] = no_numbers
numbers_of_curves end (c ∷ cs) = joined (numbers_to end c) (numbers_of_curves end cs)

abbrev pub arrivals_of : List (Option NetFlow) → List SpecCurve
arrivals_of [] = []
arrivals_of (None ∷ fs) = arrivals_of fs
arrivals_of (Some f ∷ fs) = f.arrival ∷ arrivals_of fs

-- the servers' service curves, and the flows' arrival curves
abbrev pub curves_of : Net → List SpecCurve
curves_of net = map (λ s. s.service) net.servers ++ arrivals_of net.flows

-- ---- times and rates
abbrev pub gate_times : Option GateTimes → List ℚ
gate_times None = []
gate_times (Some g) = g.cycle ∷ g.slot ∷ []

abbrev pub server_times : NetServer → List ℚ
server_times s = s.link ∷ gate_times (gate_of s.kind)

abbrev pub stall_times : Stall → List ℚ
stall_times s = s.start ∷ s.end ∷ []

abbrev pub trace_times : SpecTrace → List ℚ
trace_times trace = map (λ (p : TracePacket). p.time) trace.packets ++ flat_map stall_times trace.stalls

abbrev pub rates_of : Net → List ℚ
rates_of net = map (λ (s : NetServer). s.rate) net.servers

-- the least common multiple of the numerators
abbrev pub common_num : List ℚ → ℕ
common_num [] = 1
common_num (x ∷ xs) = lcm (nat_abs x.num) (common_num xs)

-- ---- the gauge
-- what counts: the times of the trace, the servers and the curves; the curves' values; their slopes, and the rates
abbrev pub simulation_numbers : Net → SpecTrace → Numbers
simulation_numbers net trace = joined
    record { times = trace_times trace ++ flat_map server_times net.servers; values = []; slopes = rates_of net }
    (numbers_of_curves (horizon (setup_of net trace)) (curves_of net))

abbrev pub total_bits : SpecTrace → ℕ
total_bits trace = sum_by (λ (p : TracePacket). p.bits) trace.packets

-- `dt`: with it the horizon is a multiple of 1 / dt, and so is the time for each number of bits
abbrev pub sizes_from : ℚ → List ℚ → ℕ → Numbers → Sizes
sizes_from end rates bits n = record {
  dv = common_den n.values;
  dt = common_den (end ∷ n.times) * common_num rates;
  ds = common_den n.slopes;
  steepness = bound_of (twice n.slopes);
  largest = max (max (bound_of n.values) bits) (whole_up (int (pos (bound_of (twice n.slopes))) *ℚ end));
}

abbrev pub simulation_sizes : Net → SpecTrace → Sizes
simulation_sizes net trace = sizes_from (horizon (setup_of net trace)) (rates_of net) (total_bits trace)
    (simulation_numbers net trace)

unfoldable pub simulation_gauge : Net → SpecTrace → ℕ
simulation_gauge net trace = gauge_of (simulation_sizes net trace)

-- the grid on which all times of a simulation are
abbrev pub grid_of : Net → SpecTrace → ℕ
grid_of net trace = (simulation_sizes net trace).dt
