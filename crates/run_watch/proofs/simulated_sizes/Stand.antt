-- A simulated run whose gauge is below 2 ^ 120 stands by that gauge's sizes.
use Rattle.std.specs.Prelude.{◌≡◌, ◌<◌, ◌^◌, pos, [], length}
use Rattle.std.proofs.Common.{arith, sym, subst}
use Rattle.std.proofs.lemmas.List.{length-map}
use Rattle.rational.specs.Rational.{ℚ, int}
use Rattle.rational.proofs.Laws.{le_trans, mul_le_mul}
use Rattle.rational.proofs.Integers.{nat_nonneg}
use Rattle.rational.proofs.Grid.{whole_int}
use Rattle.rational.proofs.Laws.{le_refl}
use Rattle.upp_normal.specs.Operand.{AreLimited}
use Rattle.run_laws.specs.Lawful.{run_start, IsLawful}
use Rattle.run_laws.specs.Routes.{server_at}
use Rattle.run_laws.specs.Servers.{start}
use Rattle.run_laws.specs.Views.{view}
use Rattle.run_laws.proofs.Views.{views_are_lawful}
use Rattle.net_model.specs.Networks.{Net}
use Rattle.net_model.specs.NetRoutes.{routes_of, server_for}
use Rattle.net_model.specs.Accepted.{IsAccepted}
use Rattle.net_model.specs.Traces.{SpecTrace}
use Rattle.net_model.specs.stated_runs.FromTraces.{setup_of, entering}
use Rattle.net_model.specs.stated_runs.TimeGrids as grids
use Rattle.net_model.proofs.stated_runs.MadeSetups.{traces_make_setups}
use Rattle.net_model.proofs.stated_runs.Lawfulness.{simulated_is_lawful}
use Rattle.net_model.proofs.stated_runs.AllLeft.{all_left}
use Rattle.sim_bounds.specs.Horizons.{horizon}
use Rattle.sim_bounds.specs.Gauge.{simulation_gauge, simulation_sizes, grid_of}
use Rattle.sim_bounds.proofs.MadeBounds.{made_forward}
use Rattle.sim_bounds.proofs.Places.{place_of_server}
use Rattle.sim_bounds.proofs.Fits.{IsReach, sizes_some, reach_of, run_fits}
use Rattle.run_watch.proofs.first_breaches.Views.{view_stands, spans_stand}
use Rattle.run_watch.specs.simulated_sizes.Laws.{SimulatedRunsHaveSizes}
use Rattle.run_watch.proofs.simulated_sizes.Worked.{bits_most}
use Rattle.run_watch.proofs.simulated_sizes.Entries.{empty_view, entries_few}
use Rattle.run_watch.proofs.simulated_sizes.Numbers.{curves_stand, service_stands, arrival_stands}
use Rattle.run_watch.proofs.simulated_sizes.Steps.{steps_stand, end_time}

limited_to : (net : Net) (trace : SpecTrace) (end : ℚ) → IsAccepted net → simulation_gauge net trace < 2 ^ 120 → IsReach net trace → grids.IsTime (grid_of net trace) (horizon (setup_of net trace)) end
    → AreLimited (simulation_sizes net trace) end
unfolding simulation_gauge
limited_to net trace end ok small reach t =
    let z = simulation_sizes net trace in
    let s = sizes_some net trace ok in
    let steep = int (pos z.steepness) in
    record {
      sizes = record {
        dv = let a = s.dv in omega (arith, a);
        dt = let a = s.dt in omega (arith, a);
        ds = let a = s.ds in omega (arith, a);
        steepness = s.steepness;
        largest = s.largest;
        window = t.on_grid;
        reach = le_trans (mul_le_mul steep (nat_nonneg z.steepness) t.by) reach.reach;
      };
      gauge = small;
      some = t.from_zero;
    }

pub simulated_stand : SimulatedRunsHaveSizes
simulated_stand net trace run ok curves fine named free small is =
    let S = setup_of net trace in
    let z = simulation_sizes net trace in
    let D = grid_of net trace in
    let E = horizon S in
    let setup = traces_make_setups net trace ok fine named in
    let forward = made_forward net trace ok fine named free in
    let reach = reach_of net trace (place_of_server net) setup forward in
    let F = run_fits net trace ok fine named free small in
    let lawful : IsLawful (routes_of net) run = simulated_is_lawful S run setup is in
    let left = all_left S run setup is in
    let zero : grids.IsTime D E (int (pos 0)) = record { on_grid = whole_int D (pos 0); from_zero = le_refl (int (pos 0)); by = reach.from_zero } in
    let end : grids.IsTime D E run.end = subst (grids.IsTime D E) (sym is.ends) (end_time S D E (int (pos 0)) [] run.steps F tt is.follows zero) in
    let A = limited_to net trace run.end ok small reach end in
    let steps = steps_stand net trace run.end [] run.steps F tt is.follows lawful.allowed in
    let many : length (routes_of net).servers ≡ length net.servers = length-map net.servers (server_for net.version) in (
      lawful,
      record {
        limited = A;
        steps = steps;
        bits = λ s h.
            let known : s < length (routes_of net).servers = omega (arith, h, many) in
            let server = server_at (routes_of net) s in
            let V = view (routes_of net) run s in
            let L = views_are_lawful (routes_of net) run s lawful known in
            bits_most z server run.end V A L (empty_view (routes_of net) run s lawful known (left.servers s known))
            (spans_stand z server run.end (start server.discipline) V L.allowed (view_stands z run.end (routes_of net) s [] run.steps steps));
        services = λ s h. service_stands z net E run.end s h (curves.services s h) end.by (curves_stand net trace);
        arrivals = λ flow live. arrival_stands z net E run.end flow live (curves.arrivals flow live) end.by (curves_stand net trace);
        few = λ flow.
            let some = entries_few (routes_of net) flow (run_start (routes_of net)) run.steps in
            let all = left.entered in
            let packets : length S.packets ≡ length trace.packets = length-map trace.packets entering in
            let most = fine.few in
            omega (arith, some, all, packets, most);
      },
    )
