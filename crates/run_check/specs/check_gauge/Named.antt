-- The numbers that servers and steps name, in the order in which the code meets them. (Own choice.)
use Rattle.std.specs.Prelude.{List, [], ◌∷◌, map}
use Rattle.std.specs.List.{flat_map}
use Rattle.rational.specs.Rational.{ℚ}
use Rattle.run_laws.specs.declared.steps.Step.{Step}
use Rattle.upp_limits.specs.Limits.{Numbers}
use Rattle.net_model.specs.Networks.{NetServer}
use Rattle.run_check.specs.check_gauge.Runs.{step_times, step_works, step_paces, work_pace}

-- links and rates
abbrev pub links_and_rates : List NetServer → Numbers
links_and_rates ss = record {
  times = map (λ (s : NetServer). s.link) ss;
  values = [];
  slopes = map (λ (s : NetServer). s.rate) ss;
}

abbrev pub link_and_rate : NetServer → Numbers
link_and_rate s = record { times = s.link ∷ []; values = []; slopes = s.rate ∷ [] }

-- times, bits and pace
abbrev pub work_numbers : (a b w : ℚ) → Numbers
work_numbers a b w = record { times = a ∷ b ∷ []; values = w ∷ []; slopes = work_pace a b w }

abbrev pub step_numbers : Step → Numbers
step_numbers x = record { times = step_times x; values = step_works x; slopes = step_paces x }

abbrev pub steps_numbers : List Step → Numbers
steps_numbers xs = record {
  times = flat_map step_times xs;
  values = flat_map step_works xs;
  slopes = flat_map step_paces xs;
}
