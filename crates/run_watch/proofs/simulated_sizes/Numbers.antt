-- The numbers of a network's curves stand by the sizes of a gauge, and so do those of the simulation gauge by its own.
use Rattle.std.specs.Prelude.{◌≡◌, ℕ, zero, suc, ◌<◌, ◌≤◌, pos, List, [], ◌∷◌, ◌++◌, length, map, max, Option, Some, None, slice_get, slice_index_or, is_some, true}
use Rattle.std.specs.List.{AllByRecursion, flat_map}
use Rattle.std.proofs.Common.{arith, refl, sym, subst, ap, inl, inr}
use Rattle.std.proofs.Math.Nat.{le-max_left}
use Rattle.rational.specs.Rational.{ℚ, int, ◌*ℚ◌, ◌≤ℚ◌}
use Rattle.rational.specs.Grid.{Whole, Within}
use Rattle.rational.specs.Gauge.{common_den, bound_of}
use Rattle.min_plus.specs.WholeUp.{whole_up}
use Rattle.upp_curve.specs.Curve.{SpecCurve}
use Rattle.upp_curve.specs.Curves.{IsCurve}
use Rattle.upp_limits.specs.Limits.{Numbers, Sizes, curve_numbers, twice}
use Rattle.upp_limits.specs.Sized.{IsValue, IsSlope, Stands}
use Rattle.upp_limits.proofs.CommonDen.{common_den_each, bound_each}
use Rattle.upp_limits.proofs.Stands.{stands_right}
use Rattle.net_model.specs.Networks.{Net, NetServer, NetFlow}
use Rattle.net_model.specs.Traces.{SpecTrace}
use Rattle.net_cells.specs.Numbered.{is_live, arrival, arrival_of, service, service_of}
use Rattle.net_model.specs.stated_runs.FromTraces.{setup_of}
use Rattle.net_model.proofs.stated_runs.Lists.{In}
use Rattle.sim_bounds.specs.Horizons.{horizon}
use Rattle.sim_bounds.specs.Gauge.{trace_times, server_times, rates_of, numbers_of_curves, arrivals_of, curves_of, total_bits, simulation_numbers, simulation_sizes}
use Rattle.sim_bounds.proofs.Members.{in_right, in_left, in_map, each_in}
use Rattle.sim_bounds.proofs.Fits.{times_whole}
use Rattle.sim_bounds.proofs.window_numbers.CurvesBelow.{curve_stands}

every_of : {X : Type 0} (P : X → Type 0) (xs : List X) → ((x : X) → In xs x → P x) → AllByRecursion P xs
every_of P [] h = tt
every_of P (x ∷ xs) h = (h x (inl refl), every_of P xs (λ y i. h y (inr i)))

-- ---- the numbers of the gauge
simulation_stands : (net : Net) (trace : SpecTrace) → Stands (simulation_sizes net trace) (simulation_numbers net trace)
simulation_stands net trace =
    let all = simulation_numbers net trace in
    let z = simulation_sizes net trace in
    let reach = λ (end : ℚ). whole_up (int (pos (bound_of (twice all.slopes))) *ℚ end) in
    let first = le-max_left (bound_of all.values) (total_bits trace) in
    let second = le-max_left (max (bound_of all.values) (total_bits trace)) (reach (horizon (setup_of net trace))) in
    let most : bound_of all.values ≤ z.largest = omega (arith, first, second) in
    record {
      times = every_of (Whole z.dt) all.times (times_whole net trace);
      values = every_of (IsValue z) all.values (λ v i. record {
        whole = each_in (Whole (common_den all.values)) all.values (common_den_each all.values) v i;
        within = each_in (Within (int (pos z.largest))) all.values (bound_each all.values z.largest most) v i;
      });
      slopes = every_of (IsSlope z) all.slopes (λ s i. record {
        whole = each_in (Whole (common_den all.slopes)) all.slopes (common_den_each all.slopes) s i;
        within = each_in (Within (int (pos (bound_of (twice all.slopes))))) (twice all.slopes) (bound_each (twice all.slopes) (bound_of (twice all.slopes)) (omega arith))
            (int (pos 2) *ℚ s) (in_map (λ x. int (pos 2) *ℚ x) all.slopes s i);
      });
    }

-- those of the curves up to the horizon
pub curves_stand : (net : Net) (trace : SpecTrace) → Stands (simulation_sizes net trace) (numbers_of_curves (horizon (setup_of net trace)) (curves_of net))
curves_stand net trace =
    let own : Numbers = record { times = trace_times trace ++ flat_map server_times net.servers; values = []; slopes = rates_of net } in
    stands_right (simulation_sizes net trace) own (numbers_of_curves (horizon (setup_of net trace)) (curves_of net)) (simulation_stands net trace)

-- a rate counts among the slopes
pub rate_slope : (net : Net) (trace : SpecTrace) (x : NetServer) → In net.servers x → IsSlope (simulation_sizes net trace) x.rate
rate_slope net trace x i =
    let all = simulation_numbers net trace in
    each_in (IsSlope (simulation_sizes net trace)) all.slopes (simulation_stands net trace).slopes x.rate
    (in_left (rates_of net) _ x.rate (in_map (λ (y : NetServer). y.rate) net.servers x i))

-- ---- the curves of a network
server_at : (ss : List NetServer) (s : ℕ) → s < length ss → (x : NetServer) × (In ss x) × (slice_get ss s ≡ Some x)
server_at [] s h = absurd (omega arith)
server_at (x ∷ ss) zero h = (x, inl refl, refl)
server_at (x ∷ ss) (suc s) h = let r = server_at ss s (omega arith) in (r.0, inr r.1, r.2)

pub service_stands : (z : Sizes) (net : Net) (far end : ℚ) (s : ℕ) → s < length net.servers → IsCurve (service net s) → end ≤ℚ far
    → Stands z (numbers_of_curves far (curves_of net)) → Stands z (curve_numbers end (service net s))
service_stands z net far end s h C l all =
    let r = server_at net.servers s h in
    let same : r.0.service ≡ service net s = ap service_of (sym r.2) in
    let here = in_left (map (λ (y : NetServer). y.service) net.servers) (arrivals_of net.flows) r.0.service (in_map (λ (y : NetServer). y.service) net.servers r.0 r.1) in
    curve_stands z far end (curves_of net) (service net s) (subst (λ (c : SpecCurve). In (curves_of net) c) same here) C l all

arrival_in : (fs : List (Option NetFlow)) (i : ℕ) → is_some (slice_index_or fs i None) ≡ true → In (arrivals_of fs) (arrival_of (slice_index_or fs i None))
arrival_in [] i h = absurd (cc)
arrival_in (None ∷ fs) zero h = absurd (cc)
arrival_in (Some f ∷ fs) zero h = inl refl
arrival_in (None ∷ fs) (suc i) h = arrival_in fs i h
arrival_in (Some f ∷ fs) (suc i) h = inr (arrival_in fs i h)

pub arrival_stands : (z : Sizes) (net : Net) (far end : ℚ) (flow : ℕ) → is_live net flow ≡ true → IsCurve (arrival net flow) → end ≤ℚ far
    → Stands z (numbers_of_curves far (curves_of net)) → Stands z (curve_numbers end (arrival net flow))
arrival_stands z net far end flow h C l all =
    let here = in_right (map (λ (y : NetServer). y.service) net.servers) (arrivals_of net.flows) (arrival net flow) (arrival_in net.flows flow h) in
    curve_stands z far end (curves_of net) (arrival net flow) here C l all
