-- All numbers of a check together.
use Rattle.std.proofs.Common.{◌≡◌, [], ◌∷◌, map, ap, ◌∙◌, subst}
use Rattle.rational.specs.Rational.{ℚ}
use Rattle.upp_limits.specs.declared.gathered.Gathered.{Gathered}
use Rattle.upp_limits.specs.Limits.{Numbers, no_numbers, joined, time_alone}
use Rattle.upp_limits.specs.Gathered.{Gathers}
use Rattle.upp_limits.proofs.Every.{every_append, every_left, every_right}
use Rattle.upp_limits.proofs.JoinedNumbers.{joined_assoc}
use Rattle.upp_limits.proofs.SameSizes.{Equals}
use Rattle.run_laws.specs.Runs.{SpecRun}
use Rattle.net_model.specs.Networks.{Net, NetServer}
use Rattle.sim_bounds.specs.Gauge.{arrivals_of}
use Rattle.sim_bounds.proofs.window_numbers.NetCurves.{services, arrivals}
use Rattle.sim_bounds.proofs.window_numbers.SameGathered.{curves_split, gathers_equal}
use Rattle.run_check.specs.check_gauge.Runs.{last_time}
use Rattle.run_check.specs.check_gauge.Gauge.{check_numbers}
use Rattle.run_check.specs.check_gauge.Named.{links_and_rates, steps_numbers}

-- ---- in the order of the code
abbrev pub ends : ℚ → ℚ → Numbers
ends last end = joined (joined no_numbers (time_alone last)) (time_alone end)

-- the run's end and last time, links and rates, steps
abbrev pub own_numbers : Net → SpecRun → ℚ → Numbers
own_numbers net run last = joined (joined (ends last run.end) (links_and_rates net.servers)) (steps_numbers run.steps)

there : (net : Net) (run : SpecRun) → joined (joined (own_numbers net run (last_time run)) (services net (last_time run))) (arrivals net (last_time run)) ≡ check_numbers net run
there net run =
    let last = last_time run in
    let own = own_numbers net run last in
    joined_assoc own (services net last) (arrivals net last)
    ∙ ap (joined own) (curves_split last (map (λ (s : NetServer). s.service) net.servers) (arrivals_of net.flows))

pub all_gathered : (g : Gathered) (net : Net) (run : SpecRun) (last : ℚ) → last ≡ last_time run
    → Gathers g (joined (joined (own_numbers net run last) (services net last)) (arrivals net last)) → Gathers g (check_numbers net run)
all_gathered g net run last is h =
    subst (Gathers g) (there net run)
    (subst (λ t. Gathers g (joined (joined (own_numbers net run t) (services net t)) (arrivals net t))) is h)

-- ---- a time at the end, or first
swapped : (n : Numbers) (t : ℚ) → Equals (joined n (time_alone t)) (joined (time_alone t) n)
swapped n t = record {
  there = λ T V S g f h. record {
    times = ((every_right T n.times (t ∷ []) h.times).0, every_left T n.times (t ∷ []) h.times);
    values = every_left V n.values [] h.values;
    slopes = every_left S n.slopes [] h.slopes;
  };
  back = λ T V S g f h. record {
    times = every_append T n.times (t ∷ []) h.times.1 (h.times.0, tt);
    values = every_append V n.values [] h.values tt;
    slopes = every_append S n.slopes [] h.slopes tt;
  };
}

pub time_first : (g : Gathered) (n : Numbers) (t : ℚ) → Gathers g (joined n (time_alone t)) → Gathers g (joined (time_alone t) n)
time_first g n t h = gathers_equal g (joined n (time_alone t)) (joined (time_alone t) n) (swapped n t) h
