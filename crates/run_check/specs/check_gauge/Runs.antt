-- The numbers that a recorded run names: times, bits of works, and paces. Own choice.
use Rattle.std.specs.Prelude.{ℕ, pos, List, [], ◌∷◌, sum_by, if◌then◌else◌}
use Rattle.std.specs.List.{flat_map, AllByRecursion}
use Rattle.rational.specs.Rational.{ℚ, int, ◌-ℚ◌, ◌/ℚ◌, ◌≤ℚ◌, lt_q}
use Rattle.rational.specs.MinMax.{max_q}
use Rattle.run_laws.specs.declared.steps.Step.{Step}
use Rattle.run_laws.specs.declared.steps.Step.TheVariants.{Enter, Reach, Work, Leave, Visit}
use Rattle.run_laws.specs.Runs.{SpecRun}
use Rattle.sim_bounds.specs.Horizons.{latest_of}

-- ---- times: of work its start and its end, of another step its time
abbrev pub step_times : Step → List ℚ
step_times (Enter f p t b) = t ∷ []
step_times (Reach s p t) = t ∷ []
step_times (Work s p a b w) = a ∷ b ∷ []
step_times (Leave s p t) = t ∷ []
step_times (Visit s q t) = t ∷ []

abbrev pub times_of : List Step → List ℚ
times_of xs = flat_map step_times xs

-- the last of them
abbrev pub step_end : Step → ℚ
step_end (Enter f p t b) = t
step_end (Reach s p t) = t
step_end (Work s p a b w) = max_q a b
step_end (Leave s p t) = t
step_end (Visit s q t) = t

-- the run's end, or the largest time of a step where that is later
abbrev pub last_time : SpecRun → ℚ
last_time run = max_q run.end (latest_of step_end run.steps)

-- no time is below 0, be it of a step or the end
pub record IsFromZero (run : SpecRun) : Type 0 where
  pub end : int (pos 0) ≤ℚ run.end
  pub steps : AllByRecursion (λ t. int (pos 0) ≤ℚ t) (times_of run.steps)

-- ---- bits: of packets that enter, and of works
abbrev pub entering_bits : Step → ℕ
entering_bits (Enter f p t b) = b
entering_bits (Reach s p t) = 0
entering_bits (Work s p a b w) = 0
entering_bits (Leave s p t) = 0
entering_bits (Visit s q t) = 0

-- the bits of all packets
abbrev pub total_bits : List Step → ℕ
total_bits xs = sum_by entering_bits xs

abbrev pub step_works : Step → List ℚ
step_works (Enter f p t b) = []
step_works (Reach s p t) = []
step_works (Work s p a b w) = w ∷ []
step_works (Leave s p t) = []
step_works (Visit s q t) = []

abbrev pub works_of : List Step → List ℚ
works_of xs = flat_map step_works xs

-- ---- paces, in bits a unit of time: of works that take time
abbrev pub work_pace : (a b w : ℚ) → List ℚ
work_pace a b w = if lt_q a b then (w /ℚ (b -ℚ a)) ∷ [] else []

abbrev pub step_paces : Step → List ℚ
step_paces (Enter f p t b) = []
step_paces (Reach s p t) = []
step_paces (Work s p a b w) = work_pace a b w
step_paces (Leave s p t) = []
step_paces (Visit s q t) = []

abbrev pub paces_of : List Step → List ℚ
paces_of xs = flat_map step_paces xs
