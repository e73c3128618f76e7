-- Below a gauge of 2 ^ 120 each step to the numbers of a check fits.
use Rattle.std.proofs.Common.{◌≡◌, ℕ, List, [], ◌∷◌, ◌++◌, map, sym, subst, arith}
use Rattle.std.specs.Prelude.{pos}
use Rattle.std.specs.List.{AllByRecursion}
use Rattle.rational.specs.Rational.{ℚ, int, ◌≤ℚ◌}
use Rattle.rational.specs.Grid.{Whole}
use Rattle.rational.specs.Ratio.{SumFits}
use Rattle.rational.proofs.Laws.{le_trans}
use Rattle.rational.proofs.Linear.{with2}
use Rattle.rational.proofs.MinMax.{max_q_ge_left, max_q_ge_right}
use Rattle.rational.proofs.Over.{lt_q_out}
use Rattle.upp_limits.specs.Sized.{IsSlope}
use Rattle.upp_limits.proofs.Every.{every_left, every_right}
use Rattle.upp_limits.proofs.NarrowSizes.{narrow_limit, small_slope}
use Rattle.upp_limits.proofs.Stands.{stands_right}
use Rattle.run_laws.specs.declared.steps.Step.{Step}
use Rattle.run_laws.specs.declared.steps.Step.TheVariants.{Enter, Reach, Work, Leave, Visit}
use Rattle.run_laws.specs.Runs.{SpecRun}
use Rattle.net_model.specs.Networks.{Net, NetServer}
use Rattle.net_model.specs.stated_runs.TimeGrids.{IsTime}
use Rattle.net_model.proofs.stated_runs.GridTimes.{sum_fits, difference_fits}
use Rattle.sim_bounds.specs.Horizons.{latest_of}
use Rattle.sim_bounds.specs.Gauge.{numbers_of_curves, curves_of}
use Rattle.sim_bounds.proofs.Spans.{latest_nonneg}
use Rattle.sim_bounds.proofs.window_numbers.NetCurves.{CurvesHeld, held_apart}
use Rattle.run_check.specs.check_gauge.Runs.{step_times, times_of, step_end, last_time, IsFromZero, work_pace, paces_of}
use Rattle.run_check.specs.check_gauge.Gauge.{links_of, named_numbers, largest_link, farthest, check_sizes}
use Rattle.run_check.specs.check_gauge.Paces.{PacesFit}
use Rattle.run_check.proofs.check_gauge.Held.{Fits, link_whole, last_nonneg, last_by, last_sizes}

-- ---- the times of steps
-- they are multiples of 1 / d, from 0 up to e
pub record StepTimes (d : ℕ) (e : ℚ) (xs : List Step) : Type 0 where
  pub whole : AllByRecursion (Whole d) (times_of xs)
  pub from_zero : AllByRecursion (λ t. int (pos 0) ≤ℚ t) (times_of xs)
  pub by : latest_of step_end xs ≤ℚ e

pub rest_times : (d : ℕ) (e : ℚ) (x : Step) (xs : List Step) → StepTimes d e (x ∷ xs) → StepTimes d e xs
rest_times d e x xs h = record {
  whole = every_right (Whole d) (step_times x) (times_of xs) h.whole;
  from_zero = every_right (λ t. int (pos 0) ≤ℚ t) (step_times x) (times_of xs) h.from_zero;
  by = le_trans (max_q_ge_right (step_end x) (latest_of step_end xs)) h.by;
}

pub farther : (d : ℕ) (e far : ℚ) (xs : List Step) → e ≤ℚ far → StepTimes d e xs → StepTimes d far xs
farther d e far xs l h = record { whole = h.whole; from_zero = h.from_zero; by = le_trans h.by l }

pub end_by : (d : ℕ) (e : ℚ) (x : Step) (xs : List Step) → StepTimes d e (x ∷ xs) → step_end x ≤ℚ e
end_by d e x xs h = le_trans (max_q_ge_left (step_end x) (latest_of step_end xs)) h.by

pub record WorkTimes (d : ℕ) (e a b : ℚ) : Type 0 where
  pub start : IsTime d e a
  pub end : IsTime d e b

pub work_times : (d : ℕ) (e : ℚ) (s p : ℕ) (a b w : ℚ) (xs : List Step) → StepTimes d e (Work s p a b w ∷ xs) → WorkTimes d e a b
work_times d e s p a b w xs h =
    let by = end_by d e (Work s p a b w) xs h in
    record {
      start = record { on_grid = h.whole.0; from_zero = h.from_zero.0; by = le_trans (max_q_ge_left a b) by };
      end = record { on_grid = h.whole.1.0; from_zero = h.from_zero.1.0; by = le_trans (max_q_ge_right a b) by };
    }

pub step_times_of : (net : Net) (run : SpecRun) → Fits net run → IsFromZero run → StepTimes (check_sizes net run).dt (last_time run) run.steps
step_times_of net run h low =
    let d = (check_sizes net run).dt in
    let curves = (numbers_of_curves (last_time run) (curves_of net)).times in
    let own = every_left (Whole d) (links_of net ++ times_of run.steps) curves h.stands.times.1.1 in
    record {
      whole = every_right (Whole d) (links_of net) (times_of run.steps) own;
      from_zero = low.steps;
      by = max_q_ge_right run.end (latest_of step_end run.steps);
    }

-- ---- paces
paces_fit : (net : Net) (run : SpecRun) (xs : List Step) → Fits net run → StepTimes (check_sizes net run).dt (farthest net run) xs
    → AllByRecursion (IsSlope (check_sizes net run)) (paces_of xs) → PacesFit xs
paces_fit net run [] h t s = tt
paces_fit net run (Enter f p at b ∷ xs) h t s = (tt, paces_fit net run xs h (rest_times (check_sizes net run).dt (farthest net run) (Enter f p at b) xs t) s)
paces_fit net run (Reach sv p at ∷ xs) h t s = (tt, paces_fit net run xs h (rest_times (check_sizes net run).dt (farthest net run) (Reach sv p at) xs t) s)
paces_fit net run (Work sv p a b w ∷ xs) h t s =
    let z = check_sizes net run in
    let far = farthest net run in
    let own = work_times z.dt far sv p a b w xs t in
    let narrow = narrow_limit z far h.sizes h.gauge in
    let slopes = every_left (IsSlope z) (work_pace a b w) (paces_of xs) s in (
      λ l. record {
        time = difference_fits z.dt far b a h.room own.end own.start;
        pace = small_slope z far _ h.sizes record { grid = omega (arith, narrow.grid); times = omega (arith, narrow.times); slopes = omega (arith, narrow.slopes) }
            (rw (lt_q_out a b l) at slopes).0;
      },
      paces_fit net run xs h (rest_times z.dt far (Work sv p a b w) xs t) (every_right (IsSlope z) (work_pace a b w) (paces_of xs) s),
    )
paces_fit net run (Leave sv p at ∷ xs) h t s = (tt, paces_fit net run xs h (rest_times (check_sizes net run).dt (farthest net run) (Leave sv p at) xs t) s)
paces_fit net run (Visit sv q at ∷ xs) h t s = (tt, paces_fit net run xs h (rest_times (check_sizes net run).dt (farthest net run) (Visit sv q at) xs t) s)

pub all_paces : (net : Net) (run : SpecRun) → Fits net run → AllByRecursion (IsSlope (check_sizes net run)) (paces_of run.steps)
all_paces net run h =
    let z = check_sizes net run in
    let rates = map (λ (s : NetServer). s.rate) net.servers in
    every_right (IsSlope z) rates (paces_of run.steps) (every_left (IsSlope z) (rates ++ paces_of run.steps) (numbers_of_curves (last_time run) (curves_of net)).slopes h.stands.slopes)

pub all_paces_fit : (net : Net) (run : SpecRun) → Fits net run → IsFromZero run → PacesFit run.steps
all_paces_fit net run h low =
    let d = (check_sizes net run).dt in
    let times = farther d (last_time run) (farthest net run) run.steps (last_by net run) (step_times_of net run h low) in
    paces_fit net run run.steps h times (all_paces net run h)

-- ---- the last time and the longest link
pub far_fits : (net : Net) (run : SpecRun) → Fits net run → SumFits (last_time run) (largest_link net)
far_fits net run h =
    let z = check_sizes net run in
    let far = farthest net run in
    let last = last_nonneg run in
    let link = latest_nonneg (λ (s : NetServer). s.link) net.servers in
    sum_fits z.dt far (last_time run) (largest_link net) h.room record { on_grid = h.stands.times.0; from_zero = last; by = last_by net run }
    record {
      on_grid = link_whole z.dt net run h.stands.times;
      from_zero = link;
      by = with2 (last_time run) (largest_link net) (λ c. omega (arith, c.le, c.lt, c.same));
    }

-- ---- curves
held_there : (net : Net) (run : SpecRun) → Fits net run → CurvesHeld net (last_time run)
held_there net run h =
    let z = check_sizes net run in
    let end = last_time run in
    let curves = numbers_of_curves end (curves_of net) in
    let gauge = h.gauge in
    held_apart z net end record { sizes = last_sizes net run h; gauge = omega (arith, gauge); stands = stands_right z (named_numbers net run) curves h.stands }

pub curves_held : (net : Net) (run : SpecRun) (end : ℚ) → end ≡ last_time run → Fits net run → CurvesHeld net end
curves_held net run end is h = subst (CurvesHeld net) (sym is) (held_there net run h)
