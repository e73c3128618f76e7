-- The sums by which worst delays are found have room below a gauge of 2 ^ 120.
use Rattle.std.specs.Prelude.{ℕ, ◌==◌, ◌&&◌, List, [], ◌∷◌}
use Rattle.std.proofs.Common.{inl, inr}
use Rattle.std.proofs.lemmas.Bool.{cases_Bool}
use Rattle.rational.proofs.MinMax.{max_q_ge_left}
use Rattle.run_laws.specs.declared.steps.Step.{Step}
use Rattle.run_laws.specs.declared.steps.Step.TheVariants.{Enter, Reach, Work, Leave, Visit}
use Rattle.run_laws.specs.Runs.{SpecRun}
use Rattle.run_laws.specs.FlowDelays.{delivered_at}
use Rattle.run_laws.specs.Routes.{route_of, last_server}
use Rattle.net_model.specs.Networks.{Net}
use Rattle.net_model.specs.NetRoutes.{routes_of}
use Rattle.net_model.specs.Accepted.{IsAccepted}
use Rattle.net_model.specs.stated_runs.TimeGrids.{IsTime}
use Rattle.net_model.proofs.stated_runs.GridTimes.{difference_fits}
use Rattle.sim_bounds.specs.Horizons.{latest_of}
use Rattle.simulator.specs.run_measures.Worst.{DelaysFit}
use Rattle.run_check.specs.check_gauge.Runs.{step_end, last_time}
use Rattle.run_check.specs.check_gauge.Gauge.{check_sizes, farthest}
use Rattle.run_check.proofs.check_gauge.Held.{Fits, fits, last_by}
use Rattle.run_check.proofs.check_gauge.Fitting.{StepTimes, rest_times, end_by, step_times_of}
use Rattle.run_check.specs.recorded_sizes.Laws.{RecordedRunsHaveDelays}
use Rattle.run_check.proofs.recorded_sizes.Links.{later_time, leaves}

-- ---- when a packet is delivered
delivered : (net : Net) (run : SpecRun) (s p : ℕ) (xs : List Step) → IsAccepted net → Fits net run → IsTime (check_sizes net run).dt (last_time run) run.end
    → StepTimes (check_sizes net run).dt (last_time run) xs → IsTime (check_sizes net run).dt (farthest net run) (delivered_at (routes_of net) run.end s p xs)
delivered net run s p [] ok h end t = later_time (check_sizes net run).dt (last_time run) (farthest net run) run.end (last_by net run) end
delivered net run s p (Enter f q at b ∷ xs) ok h end t =
    delivered net run s p xs ok h end (rest_times (check_sizes net run).dt (last_time run) (Enter f q at b) xs t)
delivered net run s p (Reach r q at ∷ xs) ok h end t =
    delivered net run s p xs ok h end (rest_times (check_sizes net run).dt (last_time run) (Reach r q at) xs t)
delivered net run s p (Work r q a b w ∷ xs) ok h end t =
    delivered net run s p xs ok h end (rest_times (check_sizes net run).dt (last_time run) (Work r q a b w) xs t)
delivered net run s p (Leave r q at ∷ xs) ok h end t =
    let d = (check_sizes net run).dt in
    let e = last_time run in
    elim (cases_Bool ((r == s) && (q == p))) [
      | inl is ↦ rw is (leaves net run s at ok h record { on_grid = t.whole.0; from_zero = t.from_zero.0; by = end_by d e (Leave r q at) xs t }).there
      | inr other ↦ rw other (delivered net run s p xs ok h end (rest_times d e (Leave r q at) xs t))
    ]
delivered net run s p (Visit r q at ∷ xs) ok h end t =
    delivered net run s p xs ok h end (rest_times (check_sizes net run).dt (last_time run) (Visit r q at) xs t)

-- ---- each step
delays_fit : (net : Net) (run : SpecRun) (xs : List Step) → IsAccepted net → Fits net run → IsTime (check_sizes net run).dt (last_time run) run.end
    → StepTimes (check_sizes net run).dt (last_time run) xs → DelaysFit (routes_of net) run.end xs
delays_fit net run [] ok h end t = tt
delays_fit net run (Enter f p at b ∷ xs) ok h end t =
    let d = (check_sizes net run).dt in
    let e = last_time run in
    let far = farthest net run in
    let rest = rest_times d e (Enter f p at b) xs t in
    let s = last_server (route_of (routes_of net) f).hops in
    let time : IsTime d e at = record { on_grid = t.whole.0; from_zero = t.from_zero.0; by = end_by d e (Enter f p at b) xs t } in (
      difference_fits d far (delivered_at (routes_of net) run.end s p xs) at h.room (delivered net run s p xs ok h end rest) (later_time d e far at (last_by net run) time),
      delays_fit net run xs ok h end rest,
    )
delays_fit net run (Reach s p at ∷ xs) ok h end t = delays_fit net run xs ok h end (rest_times (check_sizes net run).dt (last_time run) (Reach s p at) xs t)
delays_fit net run (Work s p a b w ∷ xs) ok h end t = delays_fit net run xs ok h end (rest_times (check_sizes net run).dt (last_time run) (Work s p a b w) xs t)
delays_fit net run (Leave s p at ∷ xs) ok h end t =
    let d = (check_sizes net run).dt in
    let e = last_time run in (
      (leaves net run s at ok h record { on_grid = t.whole.0; from_zero = t.from_zero.0; by = end_by d e (Leave s p at) xs t }).fits,
      delays_fit net run xs ok h end (rest_times d e (Leave s p at) xs t),
    )
delays_fit net run (Visit s q at ∷ xs) ok h end t = delays_fit net run xs ok h end (rest_times (check_sizes net run).dt (last_time run) (Visit s q at) xs t)

pub recorded_delays : RecordedRunsHaveDelays
recorded_delays net run ok low small =
    let h = fits net run small in
    let end : IsTime (check_sizes net run).dt (last_time run) run.end =
    record { on_grid = h.stands.times.1.0; from_zero = low.end; by = max_q_ge_left run.end (latest_of step_end run.steps) } in
    delays_fit net run run.steps ok h end (step_times_of net run h low)
