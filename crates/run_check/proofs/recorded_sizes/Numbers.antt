-- A run whose gauge is below 2 ^ 120 can be walked, whatever laws it breaks.
use Rattle.std.specs.Prelude.{Some, ◌≡◌, ℕ, zero, suc, ◌+◌, ◌*◌, ◌-◌, ◌≤◌, ◌<◌, ◌^◌, pos, List, [], ◌∷◌, slice_get}
use Rattle.std.specs.List.{AllByRecursion}
use Rattle.std.proofs.Common.{arith, subst}
use Rattle.std.proofs.lemmas.List.Sums.{sum_by-cons}
use native.Mathlib.Nat.{le-mul_of_pos_right}
use Rattle.rational.specs.Rational.{ℚ, int}
use Rattle.rational.proofs.Grid.{whole_int}
use Rattle.rational.proofs.Integers.{nat_nonneg, nat_le}
use Rattle.rational.proofs.Laws.{le_of_lt}
use Rattle.upp_limits.specs.Sized.{IsValue, grid_of}
use Rattle.upp_limits.proofs.Every.{every_left}
use Rattle.upp_limits.proofs.NarrowSizes.{narrow_limit, scaled_fits}
use Rattle.run_laws.specs.declared.steps.Step.{Step}
use Rattle.run_laws.specs.declared.steps.Step.TheVariants.{Enter, Reach, Work, Leave, Visit}
use Rattle.run_laws.specs.Runs.{SpecRun}
use Rattle.net_model.specs.Networks.{Net}
use Rattle.net_model.specs.NetRoutes.{routes_of}
use Rattle.net_model.specs.Accepted.{IsAccepted}
use Rattle.net_model.specs.stated_runs.TimeGrids.{HasRoom, IsTime}
use Rattle.sim_bounds.specs.Gauge.{numbers_of_curves, curves_of}
use Rattle.run_check.specs.Walks.{StepFits}
use Rattle.run_check.specs.check_gauge.Runs.{entering_bits, total_bits, works_of, last_time}
use Rattle.run_check.specs.check_gauge.Gauge.{check_sizes, farthest}
use Rattle.run_check.specs.check_gauge.Paces.{PacesFit}
use Rattle.run_check.proofs.check_gauge.Held.{Fits, fits}
use Rattle.run_check.proofs.check_gauge.Fitting.{StepTimes, rest_times, end_by, step_times_of, all_paces_fit}
use Rattle.run_check.specs.recorded_sizes.Laws.{RecordedRunsHaveNumbers}
use Rattle.run_check.proofs.recorded_sizes.Links.{leaves}

-- ---- the grid of values
value_room : (net : Net) (run : SpecRun) → Fits net run → HasRoom (check_sizes net run).dv (int (pos (check_sizes net run).largest))
value_room net run h =
    let z = check_sizes net run in
    let narrow = (narrow_limit z (farthest net run) h.sizes h.gauge).grid in
    let one : z.dv ≤ z.dv * z.dt = le-mul_of_pos_right z.dv h.sizes.dt in
    let two : z.dv * z.dt ≤ z.dv * z.dt * z.ds = le-mul_of_pos_right (z.dv * z.dt) h.sizes.ds in
    let rest = z.dt * z.ds in
    let some : 0 < rest = native.Mathlib.Nat.mul-pos h.sizes.dt h.sizes.ds in
    let more : z.largest * z.dv ≤ z.largest * z.dv * rest = le-mul_of_pos_right (z.largest * z.dv) some in
    let same : z.largest * z.dv * rest ≡ z.largest * grid_of z = omega arith in
    let largest = h.sizes.largest in
    let less : z.dv ≤ z.dv * z.largest = le-mul_of_pos_right z.dv largest in
    let turned : z.dv * z.largest ≡ z.largest * z.dv = omega arith in
    record {
      some = h.sizes.dv;
      small = omega (arith, narrow, more, same, less, turned);
      from_zero = nat_nonneg z.largest;
      room = scaled_fits 8 z.largest z.dv (2 ^ 127 - 1) (omega (arith, narrow, more, same));
    }

-- ---- each step
leave_time : (d : ℕ) (e : ℚ) (s p : ℕ) (t : ℚ) (xs : List Step) → StepTimes d e (Leave s p t ∷ xs) → IsTime d e t
leave_time d e s p t xs h = record { on_grid = h.whole.0; from_zero = h.from_zero.0; by = end_by d e (Leave s p t) xs h }

steps_fit : (net : Net) (run : SpecRun) (xs : List Step) → IsAccepted net → Fits net run → StepTimes (check_sizes net run).dt (last_time run) xs
    → total_bits xs ≤ (check_sizes net run).largest → AllByRecursion (IsValue (check_sizes net run)) (works_of xs) → PacesFit xs
    → AllByRecursion (StepFits (routes_of net) (check_sizes net run).dv (int (pos (check_sizes net run).largest))) xs
steps_fit net run [] ok h t n v f = tt
steps_fit net run (Enter i p at b ∷ xs) ok h t n v f =
    let z = check_sizes net run in
    let more : total_bits (Enter i p at b ∷ xs) ≡ b + total_bits xs = sum_by-cons entering_bits (Enter i p at b) xs in (
      record { on_grid = whole_int z.dv (pos b); from_zero = nat_nonneg b; by = nat_le b z.largest (omega (arith, n, more)) },
      steps_fit net run xs ok h (rest_times z.dt (last_time run) (Enter i p at b) xs t) (omega (arith, n, more)) v f.1,
    )
steps_fit net run (Reach s p at ∷ xs) ok h t n v f =
    (tt, steps_fit net run xs ok h (rest_times (check_sizes net run).dt (last_time run) (Reach s p at) xs t) n v f.1)
steps_fit net run (Work s p a b w ∷ xs) ok h t n v f =
    let z = check_sizes net run in (
      (λ some. record { on_grid = v.0.whole; from_zero = le_of_lt some; by = v.0.within.high }, λ l. let fit = f.0 l in (fit.time, fit.pace)),
      steps_fit net run xs ok h (rest_times z.dt (last_time run) (Work s p a b w) xs t) n v.1 f.1,
    )
steps_fit net run (Leave s p at ∷ xs) ok h t n v f =
    let z = check_sizes net run in (
      (leaves net run s at ok h (leave_time z.dt (last_time run) s p at xs t)).fits,
      steps_fit net run xs ok h (rest_times z.dt (last_time run) (Leave s p at) xs t) n v f.1,
    )
steps_fit net run (Visit s q at ∷ xs) ok h t n v f =
    (tt, steps_fit net run xs ok h (rest_times (check_sizes net run).dt (last_time run) (Visit s q at) xs t) n v f.1)

at_place : {A : Type 0} (P : A → Type 0) (xs : List A) (k : ℕ) (x : A) → AllByRecursion P xs → slice_get xs k ≡ Some x → P x
at_place P [] k x h e = absurd (cc)
at_place P (y ∷ ys) zero x h e = subst P (Rattle.run_laws.proofs.Heads.same_some y x e) h.0
at_place P (y ∷ ys) (suc k) x h e = at_place P ys k x h.1 e

pub recorded_numbers : RecordedRunsHaveNumbers
recorded_numbers net run ok low small =
    let h = fits net run small in
    let z = check_sizes net run in
    let all = steps_fit net run run.steps ok h (step_times_of net run h low) h.bits (every_left (IsValue z) (works_of run.steps) (numbers_of_curves (last_time run) (curves_of net)).values h.stands.values)
    (all_paces_fit net run h low) in
    record {
      grid = z.dv;
      most = int (pos z.largest);
      fit = record {
        numbers = value_room net run h;
        fits = λ k x e. at_place (StepFits (routes_of net) z.dv (int (pos z.largest))) run.steps k x all e;
      };
    }
