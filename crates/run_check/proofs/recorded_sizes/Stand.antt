-- A lawful run whose gauge is below 2 ^ 120 stands by that gauge's sizes.
use Rattle.std.specs.Prelude.{ℕ, ◌≤◌, ◌==◌, pos, List, [], ◌∷◌, length}
use Rattle.std.specs.List.{AllByRecursion}
use Rattle.std.proofs.Common.{arith, inl, inr}
use Rattle.std.proofs.lemmas.Bool.{cases_Bool}
use Rattle.rational.specs.Rational.{int, ◌≤ℚ◌}
use Rattle.rational.proofs.Integers.{nat_nonneg}
use Rattle.rational.proofs.Laws.{le_trans, mul_le_mul}
use Rattle.rational.proofs.MinMax.{max_q_ge_left}
use Rattle.rational.proofs.Over.{lt_q_out}
use Rattle.upp_limits.specs.Sized.{IsSlope, Stands}
use Rattle.upp_limits.proofs.Every.{every_left, every_right}
use Rattle.upp_limits.proofs.Stands.{stands_right}
use Rattle.upp_normal.specs.Operand.{AreLimited}
use Rattle.run_laws.specs.declared.steps.Step.{Step}
use Rattle.run_laws.specs.declared.steps.Step.TheVariants.{Enter, Reach, Work, Leave, Visit}
use Rattle.run_laws.specs.Runs.{SpecRun}
use Rattle.run_laws.specs.Routes.{Hop, Routes, link_at, route_of}
use Rattle.run_laws.specs.Lawful.{RunState, next_run, run_start, AllAllowedInRun}
use Rattle.net_laws.specs.Paths as paths
use Rattle.net_laws.specs.Once.{IsOverPaths}
use Rattle.net_laws.proofs.PathRuns.{none_arrives_twice}
use Rattle.net_model.specs.Networks.{Net}
use Rattle.net_model.specs.NetRoutes.{routes_of}
use Rattle.net_model.specs.Accepted.{IsAccepted}
use Rattle.net_model.specs.stated_runs.Setups.{AreHopsOf}
use Rattle.sim_bounds.specs.Horizons.{latest_of}
use Rattle.sim_bounds.specs.Gauge.{numbers_of_curves, curves_of}
use Rattle.flow_watch.specs.watch_laws.Entries.{entries}
use Rattle.run_watch.specs.first_breaches.Sizes.{StepStands}
use Rattle.run_check.specs.broken_laws.Recorded.{PassOnce}
use Rattle.run_check.proofs.Started.{has_paths}
use Rattle.run_watch.proofs.simulated_sizes.Numbers.{service_stands, arrival_stands}
use Rattle.run_check.specs.check_gauge.Runs.{step_end, last_time, work_pace, paces_of, IsFromZero}
use Rattle.run_check.specs.check_gauge.Gauge.{named_numbers, check_sizes}
use Rattle.run_check.proofs.check_gauge.Held.{Fits, fits, last_by}
use Rattle.run_check.proofs.check_gauge.Fitting.{StepTimes, rest_times, step_times_of, all_paces}
use Rattle.run_check.specs.recorded_sizes.Laws.{LawfulRunsHaveSizes}
use Rattle.run_check.proofs.recorded_sizes.Links.{links_nonneg}
use Rattle.run_check.proofs.recorded_sizes.Arrived.{arrived_most}

-- ---- the window ends with the run
end_by : (run : SpecRun) → run.end ≤ℚ last_time run
end_by run = max_q_ge_left run.end (latest_of step_end run.steps)

limited : (net : Net) (run : SpecRun) → Fits net run → IsFromZero run → AreLimited (check_sizes net run) run.end
limited net run h low =
    let z = check_sizes net run in
    let steep = int (pos z.steepness) in
    record {
      sizes = record {
        dv = h.sizes.dv;
        dt = h.sizes.dt;
        ds = h.sizes.ds;
        steepness = h.sizes.steepness;
        largest = h.sizes.largest;
        window = h.stands.times.1.0;
        reach = le_trans (mul_le_mul steep (nat_nonneg z.steepness) (le_trans (end_by run) (last_by net run))) h.sizes.reach;
      };
      gauge = h.gauge;
      some = low.end;
    }

-- ---- steps
steps_stand : (net : Net) (run : SpecRun) (r : RunState) (xs : List Step) → AllAllowedInRun (routes_of net) run.end r xs
    → StepTimes (check_sizes net run).dt (last_time run) xs → AllByRecursion (IsSlope (check_sizes net run)) (paces_of xs)
    → AllByRecursion (StepStands (check_sizes net run) run.end) xs
steps_stand net run r [] a t s = tt
steps_stand net run r (Enter f p at b ∷ xs) a t s =
    let x = Enter f p at b in (
      record { whole = t.whole.0; low = t.from_zero.0; high = a.0.at_server.0.in_run },
      steps_stand net run (next_run (routes_of net) r x) xs a.1 (rest_times (check_sizes net run).dt (last_time run) x xs t) s,
    )
steps_stand net run r (Reach sv p at ∷ xs) a t s =
    let x = Reach sv p at in (
      record { whole = t.whole.0; low = t.from_zero.0; high = a.0.at_server.0.in_run },
      steps_stand net run (next_run (routes_of net) r x) xs a.1 (rest_times (check_sizes net run).dt (last_time run) x xs t) s,
    )
steps_stand net run r (Work sv p b e w ∷ xs) a t s =
    let x = Work sv p b e w in
    let z = check_sizes net run in
    let own = every_left (IsSlope z) (work_pace b e w) (paces_of xs) s in (
      record {
        start = record { whole = t.whole.0; low = t.from_zero.0; high = a.0.at_server.0.in_run };
        last = record { whole = t.whole.1.0; low = t.from_zero.1.0; high = a.0.at_server.1.ends_in_run };
        pace = (rw (lt_q_out b e a.0.at_server.1.forward) at own).0;
      },
      steps_stand net run (next_run (routes_of net) r x) xs a.1 (rest_times z.dt (last_time run) x xs t) (every_right (IsSlope z) (work_pace b e w) (paces_of xs) s),
    )
steps_stand net run r (Leave sv p at ∷ xs) a t s =
    let x = Leave sv p at in (
      record { whole = t.whole.0; low = t.from_zero.0; high = a.0.at_server.0.in_run },
      steps_stand net run (next_run (routes_of net) r x) xs a.1 (rest_times (check_sizes net run).dt (last_time run) x xs t) s,
    )
steps_stand net run r (Visit sv q at ∷ xs) a t s =
    let x = Visit sv q at in
    (tt, steps_stand net run (next_run (routes_of net) r x) xs a.1 (rest_times (check_sizes net run).dt (last_time run) x xs t) s)

-- ---- no packet comes twice
over_path : (net : Routes) (hs : List Hop) → ((s : ℕ) → int (pos 0) ≤ℚ link_at net s) → AreHopsOf net hs → PassOnce hs → paths.IsPath net hs
over_path net [] links h once = tt
over_path net (x ∷ hs) links h once = (h.0.known_server, links x.server, once.0, over_path net hs links h.1 once.1)

over_paths : (net : Net) → IsAccepted net → IsOverPaths (routes_of net)
over_paths net ok i live =
    let path = has_paths net ok i live in
    over_path (routes_of net) (route_of (routes_of net) i).hops (λ s. links_nonneg net s ok) path.hops_are path.once

few_entries : (flow : ℕ) (xs : List Step) → length (entries flow xs) ≤ length xs
few_entries flow [] = omega arith
few_entries flow (Enter f p t b ∷ xs) =
    let rest = few_entries flow xs in
    elim (cases_Bool (f == flow)) [ inl e ↦ rw e (omega (arith, rest)) | inr e ↦ rw e (omega (arith, rest)) ]
few_entries flow (Reach s p t ∷ xs) = let rest = few_entries flow xs in omega (arith, rest)
few_entries flow (Work s p a b w ∷ xs) = let rest = few_entries flow xs in omega (arith, rest)
few_entries flow (Leave s p t ∷ xs) = let rest = few_entries flow xs in omega (arith, rest)
few_entries flow (Visit s q t ∷ xs) = let rest = few_entries flow xs in omega (arith, rest)

-- ---- all of it
pub lawful_stand : LawfulRunsHaveSizes
lawful_stand net run ok curves low few lawful small =
    let h = fits net run small in
    let z = check_sizes net run in
    let last = last_time run in
    let stands : Stands z (numbers_of_curves last (curves_of net)) = stands_right z (named_numbers net run) (numbers_of_curves last (curves_of net)) h.stands in
    record {
      limited = limited net run h low;
      steps = steps_stand net run (run_start (routes_of net)) run.steps lawful.allowed (step_times_of net run h low) (all_paces net run h);
      bits = λ s known.
          let most = arrived_most (routes_of net) run s (none_arrives_twice (routes_of net) run s lawful (over_paths net ok)) in
          let all = h.bits in
          omega (arith, most, all);
      services = λ s known. service_stands z net last run.end s known (curves.services s known) (end_by run) stands;
      arrivals = λ flow live. arrival_stands z net last run.end flow live (curves.arrivals flow live) (end_by run) stands;
      few = λ flow. let some = few_entries flow run.steps in omega (arith, some, few);
    }
