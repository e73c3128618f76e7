-- Where the gauge of a network and a trace is below 2 ^ 120, each number of their simulation is small.
use Rattle.std.proofs.Common.{◌≡◌, ℕ, ◌<◌, ◌^◌, List, [], ◌∷◌, ◌++◌, length, map, refl, sym, subst, arith, inl, inr, Some, None}
use Rattle.std.specs.Prelude.{Option, pos, nat_abs}
use Rattle.std.specs.List.{flat_map, AllByRecursion}
use Rattle.std.proofs.lemmas.Bool.{cases_lt}
use Rattle.std.proofs.lemmas.List.{get_or_past, length-map}
use Rattle.std.proofs.Math.Nat.{le-max_left, le-max_right}
use native.Mathlib.Nat.{dvd-mul_left}
use Rattle.rational.specs.Rational.{ℚ, int, ◌*ℚ◌, ◌/ℚ◌, ◌≤ℚ◌, ◌<ℚ◌}
use Rattle.rational.specs.Gauge.{common_den, bound_of}
use Rattle.rational.specs.Grid.{Whole}
use Rattle.rational.proofs.Linear.{with1, with2}
use Rattle.rational.proofs.Laws.{le_trans, le_of_lt, mul_le_mul_right, mul_one, one_mul, not_zero}
use Rattle.rational.proofs.Quotients.{div_nonneg, div_unique}
use Rattle.rational.proofs.Integers.{nat_le}
use Rattle.rational.proofs.Grid.{whole_int, whole_weaken, whole_both}
use Rattle.min_plus.specs.WholeUp.{whole_up}
use Rattle.upp_limits.specs.Limits.{twice}
use Rattle.upp_limits.proofs.CommonDen.{common_den_pos, common_den_each, bound_pos, bound_each}
use Rattle.upp_limits.proofs.Rounding.{whole_up_least}
use Rattle.run_laws.specs.declared.steps.Step.TheVariants.{Work}
use Rattle.run_laws.specs.Cards.{whole}
use Rattle.run_laws.specs.Routes.{link_at, route_of}
use Rattle.run_laws.proofs.Sizes.{whole_nonneg, whole_le}
use Rattle.net_model.specs.declared.trace.TracePacket.{TracePacket}
use Rattle.net_model.specs.declared.trace.Stall.{Stall}
use Rattle.net_model.specs.Networks.{Net, NetServer}
use Rattle.net_model.specs.NetRoutes.{link_for, server_for}
use Rattle.net_model.specs.Accepted.{IsAccepted}
use Rattle.net_model.specs.Traces.{SpecTrace, IsTrace, IsStall}
use Rattle.net_model.specs.Walks.{IsFeedForward}
use Rattle.net_model.specs.stated_runs.Setups.{Entering, GateTimes, Opening, IsSetup, opening_of, rate_of, packet_of}
use Rattle.net_model.specs.stated_runs.FromTraces.{gate_of, setup_of, IsTraceOf}
use Rattle.net_model.specs.stated_runs.TimeGrids.{IsGateTime, IsOnGrid, RunFits}
use Rattle.net_model.proofs.stated_runs.Lists.{In, in_contains}
use Rattle.net_model.proofs.stated_runs.Routed.{place_of}
use Rattle.net_model.proofs.stated_runs.MadeSetups.{traces_make_setups}
use Rattle.sim_bounds.specs.Horizons.{horizon, IsForward}
use Rattle.sim_bounds.specs.Times.{IsGateWhole, IsGrid}
use Rattle.sim_bounds.specs.Gauge.{gate_times, server_times, stall_times, trace_times, rates_of, common_num, total_bits, simulation_numbers, simulation_sizes, simulation_gauge, grid_of}
use Rattle.sim_bounds.proofs.Spans.{first_nonneg, enters_by, stalls_by}
use Rattle.sim_bounds.proofs.InTime.{first_in_time}
use Rattle.sim_bounds.proofs.TimesOf.{due_in_time, due_on_grid, times_of}
use Rattle.sim_bounds.proofs.Members.{in_left, in_right, in_map, in_flat, each_in, all_in, any_made, made_from}
use Rattle.sim_bounds.proofs.Places.{place_of_server}
use Rattle.sim_bounds.proofs.MadeBounds.{many_openings, stalls_of, gates_of, packet_in, made_forward}
use Rattle.sim_bounds.proofs.Gauged.{AreSome, IsBelow, is_below, both_some, common_num_pos, common_num_each, time_whole, work_in, cycle_in, bits_in, gate_fits, stalls_fit, room_of, work_fits}

-- ---- the grid
pub times_whole : (net : Net) (trace : SpecTrace) (t : ℚ) → In (simulation_numbers net trace).times t → Whole (grid_of net trace) t
times_whole net trace t h =
    let all = horizon (setup_of net trace) ∷ (simulation_numbers net trace).times in
    whole_both (common_den all) (common_num (rates_of net)) t (each_in (Whole (common_den all)) all (common_den_each all) t (inr h))

pub horizon_whole : (net : Net) (trace : SpecTrace) → Whole (grid_of net trace) (horizon (setup_of net trace))
horizon_whole net trace =
    let end = horizon (setup_of net trace) in
    let all = end ∷ (simulation_numbers net trace).times in
    whole_both (common_den all) (common_num (rates_of net)) end (each_in (Whole (common_den all)) all (common_den_each all) end (inl refl))

-- those of the trace and the servers
named_whole : (net : Net) (trace : SpecTrace) (t : ℚ) → In (trace_times trace ++ flat_map server_times net.servers) t → Whole (grid_of net trace) t
named_whole net trace t h =
    let own = trace_times trace ++ flat_map server_times net.servers in
    times_whole net trace t (in_left own _ t h)

trace_whole : (net : Net) (trace : SpecTrace) (t : ℚ) → In (trace_times trace) t → Whole (grid_of net trace) t
trace_whole net trace t h = named_whole net trace t (in_left (trace_times trace) (flat_map server_times net.servers) t h)

server_whole : (net : Net) (trace : SpecTrace) (x : NetServer) (t : ℚ) → In net.servers x → In (server_times x) t → Whole (grid_of net trace) t
server_whole net trace x t i h =
    named_whole net trace t (in_right (trace_times trace) (flat_map server_times net.servers) t (in_flat server_times net.servers x t i h))

gate_whole : (d : ℕ) (g : Option GateTimes) → ((t : ℚ) → In (gate_times g) t → Whole d t) → IsGateWhole d g
gate_whole d None h = tt
gate_whole d (Some g) h = (h g.cycle (inl refl), h g.slot (inr (inl refl)))

works_whole : (net : Net) (trace : SpecTrace) → IsAccepted net → (s n : ℕ) → Whole (grid_of net trace) (whole n /ℚ rate_of (setup_of net trace) s)
works_whole net trace ok s n =
    any_made (λ r. Whole (grid_of net trace) (whole n /ℚ r)) (λ (x : NetServer). x.rate) net.servers s (int (pos 1))
    (
    let one : int (pos 0) <ℚ int (pos 1) = with1 (int (pos 0)) (λ c. omega (arith, c.le, c.lt, c.same)) in
    subst (λ x. Whole (grid_of net trace) x) (sym (div_unique (whole n) (int (pos 1)) (whole n) (not_zero (int (pos 1)) one) (mul_one (whole n)))) (whole_int (grid_of net trace) (pos n)))
    (λ x i.
    let own = time_whole x.rate n (ok.servers x (in_contains net.servers x i)).rate in
    let num = whole_weaken (nat_abs x.rate.num) (common_num (rates_of net)) (whole n /ℚ x.rate)
    (common_num_each (rates_of net) x.rate (in_map (λ (y : NetServer). y.rate) net.servers x i)) own in
    whole_weaken (common_num (rates_of net)) (grid_of net trace) (whole n /ℚ x.rate) (dvd-mul_left (common_num (rates_of net)) _) num)

pub made_grid : (net : Net) (trace : SpecTrace) → IsAccepted net → IsGrid (setup_of net trace) (grid_of net trace)
made_grid net trace ok = record {
  packets = λ p h.
      let x = packet_in net trace p h in
      subst (λ (e : Entering). Whole (grid_of net trace) e.time) (sym x.2)
      (trace_whole net trace x.0.time (in_left (map (λ (t : TracePacket). t.time) trace.packets) (flat_map stall_times trace.stalls) x.0.time
      (in_map (λ (t : TracePacket). t.time) trace.packets x.0 x.1)));
  links = λ s. any_made (Whole (grid_of net trace)) link_for net.servers s (int (pos 0)) (whole_int (grid_of net trace) (pos 0))
      (λ x i. server_whole net trace x x.link i (inl refl));
  gates = gates_of (IsGateWhole (grid_of net trace)) net trace tt
      (λ x i. gate_whole (grid_of net trace) (gate_of x.kind) (λ t h. server_whole net trace x t i (inr h)));
  stalls = stalls_of (λ t. Whole (grid_of net trace) t.start × Whole (grid_of net trace) t.end) net trace
      (λ x i. (stall_whole x x.start i (inl refl), stall_whole x x.end i (inr (inl refl))));
  works = works_whole net trace ok;
}
  where
    stall_whole : (x : Stall) (t : ℚ) → In trace.stalls x → In (stall_times x) t → Whole (grid_of net trace) t
    stall_whole x t i h =
        trace_whole net trace t (in_right (map (λ (p : TracePacket). p.time) trace.packets) (flat_map stall_times trace.stalls) t (in_flat stall_times trace.stalls x t i h))

-- ---- the gauge
rates_above : (xs : List NetServer) → ((x : NetServer) → In xs x → int (pos 0) <ℚ x.rate) → AllByRecursion (λ x. int (pos 0) <ℚ x) (map (λ (x : NetServer). x.rate) xs)
rates_above [] h = tt
rates_above (x ∷ xs) h = (h x (inl refl), rates_above xs (λ y i. h y (inr i)))

pub sizes_some : (net : Net) (trace : SpecTrace) → IsAccepted net → AreSome (simulation_sizes net trace)
sizes_some net trace ok =
    let n = simulation_numbers net trace in
    let all = horizon (setup_of net trace) ∷ n.times in
    let a = bound_pos n.values in
    let b = le-max_left (bound_of n.values) (total_bits trace) in
    let reach = whole_up (int (pos (bound_of (twice n.slopes))) *ℚ horizon (setup_of net trace)) in
    let c = le-max_left (Rattle.std.specs.Prelude.max (bound_of n.values) (total_bits trace)) reach in
    let d = common_den_pos all in
    let e = common_num_pos (rates_of net) (rates_above net.servers (λ x i. (ok.servers x (in_contains net.servers x i)).rate)) in
    let f = common_den_pos n.values in
    let g = common_den_pos n.slopes in
    record {
      largest = omega (arith, a, b, c);
      steepness = bound_pos (twice n.slopes);
      dv = omega (arith, f);
      dt = both_some (common_den all) (common_num (rates_of net)) (omega (arith, d)) (omega (arith, e));
      ds = omega (arith, g);
    }

-- a rate counts among the slopes
record IsRateOf (net : Net) (trace : SpecTrace) (x : ℚ) : Type 0 where
  some : int (pos 0) ≤ℚ x
  on_grid : Whole (simulation_sizes net trace).ds x
  most : x ≤ℚ whole (simulation_sizes net trace).steepness

rate_counts : (net : Net) (trace : SpecTrace) → IsAccepted net → (x : NetServer) → In net.servers x → IsRateOf net trace x.rate
rate_counts net trace ok x i =
    let n = simulation_numbers net trace in
    let here : In n.slopes x.rate = in_left (rates_of net) _ x.rate (in_map (λ (y : NetServer). y.rate) net.servers x i) in
    let some : int (pos 0) ≤ℚ x.rate = le_of_lt (ok.servers x (in_contains net.servers x i)).rate in
    let double : In (twice n.slopes) (int (pos 2) *ℚ x.rate) = in_map (λ s. int (pos 2) *ℚ s) n.slopes x.rate here in
    let steep = bound_of (twice n.slopes) in
    let within = (each_in (Rattle.rational.specs.Grid.Within (int (pos steep))) (twice n.slopes) (bound_each (twice n.slopes) steep (omega arith)) (int (pos 2) *ℚ x.rate) double).high in
    record {
      some = some;
      on_grid = each_in (Whole (common_den n.slopes)) n.slopes (common_den_each n.slopes) x.rate here;
      most = with2 x.rate (whole steep) (λ c. omega (arith, c.le, c.lt, c.same));
    }

-- the horizon is within the largest number
pub record IsReach (net : Net) (trace : SpecTrace) : Type 0 where
  pub from_zero : int (pos 0) ≤ℚ horizon (setup_of net trace)
  pub reach : whole (simulation_sizes net trace).steepness *ℚ horizon (setup_of net trace) ≤ℚ whole (simulation_sizes net trace).largest
  pub by : horizon (setup_of net trace) ≤ℚ whole (simulation_sizes net trace).largest

pub reach_of : (net : Net) (trace : SpecTrace) (place : ℕ → ℕ) → IsSetup (setup_of net trace) → IsForward (setup_of net trace) place → IsReach net trace
reach_of net trace place ok f =
    let n = simulation_numbers net trace in
    let e = horizon (setup_of net trace) in
    let steep = bound_of (twice n.slopes) in
    let zero : int (pos 0) ≤ℚ e = le_trans (first_nonneg (setup_of net trace)) (first_in_time (setup_of net trace) place ok f) in
    let up = whole_up_least (whole steep *ℚ e) in
    let most = nat_le (whole_up (whole steep *ℚ e)) (simulation_sizes net trace).largest
    (le-max_right (Rattle.std.specs.Prelude.max (bound_of n.values) (total_bits trace)) (whole_up (whole steep *ℚ e))) in
    let reach : whole steep *ℚ e ≤ℚ whole (simulation_sizes net trace).largest = le_trans up most in
    let one : int (pos 1) *ℚ e ≤ℚ whole steep *ℚ e = mul_le_mul_right e zero (whole_le 1 steep (bound_pos (twice n.slopes))) in
    record { from_zero = zero; reach = reach; by = le_trans (subst (λ x. x ≤ℚ whole steep *ℚ e) (one_mul e) one) reach }

-- ---- the law
gauge_below : (net : Net) (trace : SpecTrace) → IsAccepted net → simulation_gauge net trace < 2 ^ 120 → IsBelow (simulation_sizes net trace)
unfolding simulation_gauge
gauge_below net trace ok small = is_below (simulation_sizes net trace) (sizes_some net trace ok) small

on_grid_of : (net : Net) (trace : SpecTrace) → IsAccepted net → IsTrace trace → IsTraceOf net trace → IsFeedForward net
    → simulation_gauge net trace < 2 ^ 120 → IsOnGrid (setup_of net trace) (grid_of net trace) (horizon (setup_of net trace))
on_grid_of net trace ok fine named free small =
    let S = setup_of net trace in
    let d = grid_of net trace in
    let e = horizon S in
    let setup = traces_make_setups net trace ok fine named in
    let forward = made_forward net trace ok fine named free in
    let place = place_of_server net in
    let grid = made_grid net trace ok in
    let below = gauge_below net trace ok small in
    let reach = reach_of net trace place setup forward in
    let many : length S.net.servers ≡ length net.servers = length-map net.servers (server_for net.version) in
    let first = first_in_time S place setup forward in
    record {
      room = room_of (simulation_sizes net trace) e below reach.from_zero reach.by;
      packets = λ p h. record { on_grid = grid.packets p h; from_zero = setup.from_zero p h; by = le_trans (enters_by S p h) first };
      stalls = λ s. stalls_fit d e (opening_of S s).stalls (grid.stalls s)
          (stalls_of (λ t. (int (pos 0) ≤ℚ t.start) × (t.start ≤ℚ t.end)) net trace
          (λ x i. let k = all_in IsStall trace.stalls fine.stalls x i in (k.from_zero, le_of_lt k.forward)) s)
          (le_trans (stalls_by S s) first);
      gates = λ s. elim (cases_lt s (length net.servers)) [
        | inl h ↦ gate_fits d e (opening_of S s).gate (setup.gates s) (grid.gates s)
            (le_trans (cycle_in S setup s) (work_in S place setup forward s (omega (arith, h, many))).0)
        | inr h ↦
            let long = many_openings 0 net.servers trace.stalls in
            let none : opening_of S s ≡ record { gate = None; stalls = [] } = get_or_past S.openings s record { gate = None; stalls = [] } (omega (arith, h, long)) in
            subst (λ (x : Opening). IsGateTime d e x.gate) (sym none) tt
      ];
      links = λ s. record {
        on_grid = grid.links s;
        from_zero = setup.links s;
        by = elim (cases_lt s (length net.servers)) [
          | inl h ↦ (work_in S place setup forward s (omega (arith, h, many))).1
          | inr h ↦
              let long = length-map net.servers link_for in
              let none : link_at S.net s ≡ int (pos 0) = get_or_past S.net.links s (int (pos 0)) (omega (arith, h, long)) in
              subst (λ x. x ≤ℚ e) (sym none) reach.from_zero
        ];
      };
      times = λ s p h q.
          let known = (place_of S.net s (route_of S.net (packet_of S p).flow).hops (setup.packets p h).hops q).known_server in
          record {
            on_grid = grid.works s (packet_of S p).bits;
            from_zero = div_nonneg (whole (packet_of S p).bits) (rate_of S s) (setup.rates s) (whole_nonneg (packet_of S p).bits);
            by = le_trans (bits_in S setup s p h q) (work_in S place setup forward s known).0;
          };
      works = λ s x h t.
          let r = made_from (λ (y : NetServer). y.rate) net.servers s (int (pos 1)) (omega (arith, h, many)) in
          let c = rate_counts net trace ok r.0 r.1 in
          subst (λ y. Rattle.rational.specs.Ratio.IsSmall (y *ℚ x)) (sym r.2)
          (work_fits (simulation_sizes net trace) e r.0.rate x below c.some c.on_grid c.most reach.reach t);
    }

pub run_fits : (net : Net) (trace : SpecTrace) → IsAccepted net → IsTrace trace → IsTraceOf net trace → IsFeedForward net
    → simulation_gauge net trace < 2 ^ 120 → RunFits (setup_of net trace) (grid_of net trace) (horizon (setup_of net trace))
run_fits net trace ok fine named free small =
    let S = setup_of net trace in
    let d = grid_of net trace in
    let setup = traces_make_setups net trace ok fine named in
    let forward = made_forward net trace ok fine named free in
    let place = place_of_server net in
    let grid = made_grid net trace ok in
    record {
      grid = on_grid_of net trace ok fine named free small;
      due = λ steps f y due.
          let t = due_in_time S place steps y setup forward f due in
          let w = due_on_grid S d steps y setup grid f due in
          record { on_grid = w.time; from_zero = t.from_zero; by = le_trans t.forward (le_trans t.end_near t.in_time) };
      ends = λ steps f s p a b w due.
          let t = due_in_time S place steps (Work s p a b w) setup forward f due in
          let k = due_on_grid S d steps (Work s p a b w) setup grid f due in
          record { on_grid = k.end; from_zero = le_trans t.from_zero t.forward; by = le_trans t.end_near t.in_time };
      left = λ steps f s h u under. (times_of S place d steps setup forward grid f).left s h u under;
    }
