-- Below a gauge of 2 ^ 120 the numbers of a check are held by its sizes, and its times have room.
use Rattle.std.proofs.Common.{◌≡◌, ℕ, ◌<◌, ◌≤◌, ◌*◌, ◌-◌, ◌^◌, List, [], ◌∷◌, ◌++◌, map, ap, ◌∙◌, subst, arith}
use Rattle.std.specs.Prelude.{pos}
use Rattle.std.specs.List.{AllByRecursion}
use native.Mathlib.Nat.{le-mul_of_pos_right}
use Rattle.rational.specs.Rational.{int, ◌*ℚ◌, ◌≤ℚ◌}
use Rattle.rational.specs.Gauge.{common_den}
use Rattle.rational.specs.Grid.{Whole}
use Rattle.rational.proofs.Laws.{le_trans, mul_le_mul, mul_le_mul_right, one_mul}
use Rattle.rational.proofs.Linear.{with2}
use Rattle.rational.proofs.Integers.{nat_nonneg, nat_le, nat_le_out}
use Rattle.rational.proofs.Grid.{whole_int, whole_add, max_whole}
use Rattle.rational.proofs.MinMax.{max_q_ge_right}
use Rattle.upp_limits.specs.Limits.{Numbers, joined, value_alone, sizes_of, gauge_of}
use Rattle.upp_limits.specs.Sized.{AreSizes, Stands, HeldBy}
use Rattle.upp_limits.proofs.CommonDen.{common_den_each, same_common_den}
use Rattle.upp_limits.proofs.Every.{every_left}
use Rattle.upp_limits.proofs.NarrowSizes.{narrow_limit, scaled_fits}
use Rattle.upp_limits.proofs.SameSizes.{make_sizes}
use Rattle.upp_limits.proofs.Stands.{stands_left, stands_right}
use Rattle.run_laws.specs.Runs.{SpecRun}
use Rattle.net_model.specs.Networks.{Net, NetServer}
use Rattle.net_model.specs.stated_runs.TimeGrids.{HasRoom}
use Rattle.sim_bounds.specs.Horizons.{latest_of}
use Rattle.sim_bounds.specs.Gauge.{numbers_of_curves, curves_of}
use Rattle.sim_bounds.proofs.Spans.{latest_nonneg}
use Rattle.sim_bounds.specs.window_numbers.Rated.{gauge_with}
use Rattle.sim_bounds.proofs.window_numbers.Products.{sizes_with, held_all}
use Rattle.run_check.specs.check_gauge.Runs.{times_of, last_time, step_end, total_bits}
use Rattle.run_check.specs.check_gauge.Gauge.{largest_link, farthest, check_numbers, check_sizes, check_gauge}

-- ---- the farthest time is on the grid of the others
links_whole : (d : ℕ) (xs : List NetServer) → AllByRecursion (Whole d) (map (λ (s : NetServer). s.link) xs) → Whole d (latest_of (λ (s : NetServer). s.link) xs)
links_whole d [] h = whole_int d (pos 0)
links_whole d (x ∷ xs) h = max_whole d x.link (latest_of (λ (s : NetServer). s.link) xs) h.0 (links_whole d xs h.1)

pub link_whole : (d : ℕ) (net : Net) (run : SpecRun) → AllByRecursion (Whole d) (check_numbers net run).times → Whole d (largest_link net)
link_whole d net run all =
    let links = map (λ (s : NetServer). s.link) net.servers in
    let times = times_of run.steps in
    let curves = (numbers_of_curves (last_time run) (curves_of net)).times in
    links_whole d net.servers (every_left (Whole d) links times (every_left (Whole d) (links ++ times) curves all.1.1))

far_whole : (d : ℕ) (net : Net) (run : SpecRun) → AllByRecursion (Whole d) (check_numbers net run).times → Whole d (farthest net run)
far_whole d net run all = whole_add d (last_time run) (largest_link net) all.0 (link_whole d net run all)

same_den : (net : Net) (run : SpecRun) → common_den (farthest net run ∷ (check_numbers net run).times) ≡ common_den (check_numbers net run).times
same_den net run =
    let ts = (check_numbers net run).times in
    let all = common_den_each ts in
    same_common_den (farthest net run ∷ ts) ts (far_whole (common_den ts) net run all, all) (common_den_each (farthest net run ∷ ts)).1

-- ---- the gauge
abbrev pub all_numbers : Net → SpecRun → Numbers
all_numbers net run = joined (check_numbers net run) (value_alone (int (pos (total_bits run.steps))))

pub sizes_are : (net : Net) (run : SpecRun) → sizes_of (farthest net run) (all_numbers net run) ≡ check_sizes net run
unfolding make_sizes
sizes_are net run =
    let z = check_sizes net run in
    sizes_with (farthest net run) (check_numbers net run) (total_bits run.steps)
    ∙ ap (λ d. make_sizes z.dv d z.ds z.steepness z.largest) (same_den net run)

pub gauge_is : (net : Net) (run : SpecRun) → gauge_with 1 (sizes_of (farthest net run) (all_numbers net run)) ≡ check_gauge net run
unfolding check_gauge gauge_of gauge_with
gauge_is net run =
    let z = check_sizes net run in
    let one : z.dt * 1 ≡ z.dt = omega arith in
    ap (gauge_with 1) (sizes_are net run) ∙ ap (λ d. 64 * (z.largest * z.steepness * z.dv * d * z.ds * z.ds)) one

-- ---- below it
pub held : (net : Net) (run : SpecRun) → check_gauge net run < 2 ^ 120 → HeldBy (check_sizes net run) (farthest net run) (all_numbers net run)
unfolding check_gauge
held net run small =
    let same : gauge_of (sizes_of (farthest net run) (all_numbers net run)) ≡ gauge_of (check_sizes net run) = ap gauge_of (sizes_are net run) in
    subst (λ z. HeldBy z (farthest net run) (all_numbers net run)) (sizes_are net run)
    (held_all (farthest net run) (all_numbers net run) (omega (arith, same, small)))

pub last_nonneg : (run : SpecRun) → int (pos 0) ≤ℚ last_time run
last_nonneg run = le_trans (latest_nonneg step_end run.steps) (max_q_ge_right run.end (latest_of step_end run.steps))

pub last_by : (net : Net) (run : SpecRun) → last_time run ≤ℚ farthest net run
last_by net run =
    let some = latest_nonneg (λ (s : NetServer). s.link) net.servers in
    with2 (last_time run) (largest_link net) (λ c. omega (arith, c.le, c.lt, c.same))

pub record Fits (net : Net) (run : SpecRun) : Type 0 where
  pub sizes : AreSizes (check_sizes net run) (farthest net run)
  pub gauge : gauge_of (check_sizes net run) < 2 ^ 120
  pub stands : Stands (check_sizes net run) (check_numbers net run)
  pub bits : total_bits run.steps ≤ (check_sizes net run).largest
  pub room : HasRoom (check_sizes net run).dt (farthest net run)

far_most : (net : Net) (run : SpecRun) → AreSizes (check_sizes net run) (farthest net run) → farthest net run ≤ℚ int (pos (check_sizes net run).largest)
far_most net run sizes =
    let z = check_sizes net run in
    let far = farthest net run in
    let some : int (pos 0) ≤ℚ far = le_trans (last_nonneg run) (last_by net run) in
    let steep : int (pos 1) ≤ℚ int (pos z.steepness) = nat_le 1 z.steepness sizes.steepness in
    let first = mul_le_mul_right far some steep in
    le_trans (subst (λ x. x ≤ℚ int (pos z.steepness) *ℚ far) (one_mul far) first) sizes.reach

room_of : (net : Net) (run : SpecRun) → AreSizes (check_sizes net run) (farthest net run) → gauge_of (check_sizes net run) < 2 ^ 120
    → HasRoom (check_sizes net run).dt (farthest net run)
room_of net run sizes small =
    let z = check_sizes net run in
    let far = farthest net run in
    let narrow = (narrow_limit z far sizes small).times in
    let some : int (pos 0) ≤ℚ far = le_trans (last_nonneg run) (last_by net run) in
    let most = far_most net run sizes in
    let largest = sizes.largest in
    let some_value : 0 < z.largest = omega (arith, largest) in
    let less : z.dt ≤ z.dt * z.largest = le-mul_of_pos_right z.dt some_value in
    let turned : z.dt * z.largest ≡ z.largest * z.dt = omega arith in
    let eight : int (pos 8) *ℚ far ≤ℚ int (pos 8) *ℚ int (pos z.largest) = mul_le_mul (int (pos 8)) (nat_nonneg 8) most in
    record {
      some = sizes.dt;
      small = omega (arith, narrow, less, turned);
      from_zero = some;
      room = le_trans (mul_le_mul_right (int (pos z.dt)) (nat_nonneg z.dt) eight) (scaled_fits 8 z.largest z.dt (2 ^ 127 - 1) (omega (arith, narrow)));
    }

pub fits : (net : Net) (run : SpecRun) → check_gauge net run < 2 ^ 120 → Fits net run
unfolding check_gauge
fits net run small =
    let h = held net run small in
    let z = check_sizes net run in
    let value = value_alone (int (pos (total_bits run.steps))) in
    record {
      sizes = h.sizes;
      gauge = small;
      stands = stands_left z (check_numbers net run) value h.stands;
      bits = nat_le_out (total_bits run.steps) z.largest (stands_right z (check_numbers net run) value h.stands).values.0.within.high;
      room = room_of net run h.sizes small;
    }

-- the window of the curves ends at the last time
pub last_sizes : (net : Net) (run : SpecRun) → Fits net run → AreSizes (check_sizes net run) (last_time run)
last_sizes net run h =
    let z = check_sizes net run in
    let steep = int (pos z.steepness) in
    record {
      dv = h.sizes.dv;
      dt = h.sizes.dt;
      ds = h.sizes.ds;
      steepness = h.sizes.steepness;
      largest = h.sizes.largest;
      window = h.stands.times.0;
      reach = le_trans (mul_le_mul steep (nat_nonneg z.steepness) (last_by net run)) h.sizes.reach;
    }
