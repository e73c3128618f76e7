-- All numbers of a simulation together.
use Rattle.std.proofs.Common.{◌≡◌, ◌<◌, ◌^◌, [], ◌++◌, map, sym, subst, arith}
use Rattle.std.specs.Prelude.{pos}
use Rattle.std.specs.List.{flat_map}
use Rattle.rational.specs.Rational.{ℚ, int}
use Rattle.upp_limits.specs.declared.gathered.Gathered.{Gathered}
use Rattle.upp_limits.specs.Limits.{Numbers, joined, time_alone, value_alone, sizes_of}
use Rattle.upp_limits.specs.Gathered.{Gathers}
use Rattle.upp_limits.specs.Sized.{HeldBy}
use Rattle.upp_limits.proofs.Operands.{held_left, held_right}
use Rattle.net_model.specs.declared.trace.TracePacket.{TracePacket}
use Rattle.net_model.specs.Networks.{Net, NetServer}
use Rattle.net_model.specs.Accepted.{IsAccepted}
use Rattle.net_model.specs.Traces.{SpecTrace}
use Rattle.net_model.specs.stated_runs.FromTraces.{setup_of}
use Rattle.sim_bounds.specs.Horizons.{horizon}
use Rattle.sim_bounds.specs.Gauge.{server_times, stall_times, trace_times, rates_of, common_num, numbers_of_curves, arrivals_of, curves_of, simulation_numbers, total_bits, simulation_gauge}
use Rattle.sim_bounds.specs.sim_gauge.Named.{packet_numbers, stall_numbers, server_numbers}
use Rattle.sim_bounds.proofs.window_numbers.Products.{finer, held_all}
use Rattle.sim_bounds.proofs.sim_gauge.Products.{gauge_is}
use Rattle.sim_bounds.proofs.sim_gauge.Rates.{common_some}
use Rattle.sim_bounds.proofs.window_numbers.NetCurves.{services, arrivals, CurvesHeld, held_apart}
use Rattle.sim_bounds.proofs.window_numbers.SameGathered.{curves_split, gathers_equal}
use Rattle.sim_bounds.proofs.sim_gauge.SameGathered.{in_order}

-- ---- in the order of the code, or of the definition
pub all_gathered : (g : Gathered) (net : Net) (trace : SpecTrace) (end : ℚ) → end ≡ horizon (setup_of net trace)
    → Gathers g (joined (joined (joined (joined (joined (time_alone end) (packet_numbers trace.packets)) (stall_numbers trace.stalls)) (server_numbers net.servers))
    (services net end)) (arrivals net end))
    → Gathers g (joined (time_alone end) (simulation_numbers net trace))
all_gathered g net trace end is h =
    let own : Numbers = record { times = trace_times trace ++ flat_map server_times net.servers; values = []; slopes = rates_of net } in
    let same = in_order end (map (λ (p : TracePacket). p.time) trace.packets) (flat_map stall_times trace.stalls) (flat_map server_times net.servers) (rates_of net) (services net end) (arrivals net end) in
    let one = gathers_equal g _ _ same h in
    let two : Gathers g (joined (time_alone end) (joined own (numbers_of_curves end (curves_of net)))) =
    subst (λ c. Gathers g (joined (time_alone end) (joined own c))) (curves_split end (map (λ (s : NetServer). s.service) net.servers) (arrivals_of net.flows)) one in
    subst (λ e. Gathers g (joined (time_alone end) (joined own (numbers_of_curves e (curves_of net))))) is two

-- ---- below the limit the numbers of the curves are held
held_there : (net : Net) (trace : SpecTrace) → IsAccepted net → simulation_gauge net trace < 2 ^ 120 → CurvesHeld net (horizon (setup_of net trace))
held_there net trace ok small =
    let end = horizon (setup_of net trace) in
    let bits = value_alone (int (pos (total_bits trace))) in
    let all = joined (simulation_numbers net trace) bits in
    let z = sizes_of end all in
    let own : Numbers = record { times = trace_times trace ++ flat_map server_times net.servers; values = []; slopes = rates_of net } in
    let most = finer (common_num (rates_of net)) z (common_some net ok) in
    let is = gauge_is net trace in
    let held : HeldBy z end (numbers_of_curves end (curves_of net)) =
    held_right z end own (numbers_of_curves end (curves_of net)) (held_left z end (simulation_numbers net trace) bits (held_all end all (omega (arith, most, is, small)))) in
    held_apart z net end held

pub curves_held : (net : Net) (trace : SpecTrace) (end : ℚ) → IsAccepted net → end ≡ horizon (setup_of net trace) → simulation_gauge net trace < 2 ^ 120 → CurvesHeld net end
curves_held net trace end ok is small = subst (CurvesHeld net) (sym is) (held_there net trace ok small)
