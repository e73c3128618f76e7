-- Where the numbers of a run stand: by the sizes of a gauge below 2 ^ 120 whose window ends with the run. The gauge of a
-- simulation, or of the check of a recorded run, gives such sizes. Own choice.
use Rattle.std.specs.Prelude.{ℕ, ◌+◌, ◌<◌, ◌≤◌, ◌^◌, IsTrue, List, [], ◌∷◌, length}
use Rattle.std.specs.List.{AllByRecursion}
use Rattle.rational.specs.Rational.{ℚ, ◌-ℚ◌, ◌/ℚ◌}
use Rattle.upp_limits.specs.Limits.{Sizes, curve_numbers}
use Rattle.upp_limits.specs.Sized.{IsSlope, Stands}
use Rattle.upp_normal.specs.Operand.{AreLimited}
use Rattle.run_laws.specs.declared.steps.Step.{Step}
use Rattle.run_laws.specs.declared.steps.Step.TheVariants.{Enter, Reach, Work, Leave, Visit}
use Rattle.run_laws.specs.Cards.{ServerStep, Arrives, Works, Leaves, Visits}
use Rattle.run_laws.specs.Runs.{SpecRun}
use Rattle.run_laws.specs.Views.{view}
use Rattle.net_model.specs.Networks.{Net}
use Rattle.net_model.specs.NetRoutes.{routes_of}
use Rattle.net_cells.specs.Numbered.{is_live, arrival, service}
use Rattle.flow_watch.specs.watch_laws.Entries.{entries}
use Rattle.flow_watch.specs.watch_laws.MarkSizes.{IsTime}

-- work starts and ends at times of the run, and its pace counts as a slope
pub record IsWorkTime (z : Sizes) (end a b w : ℚ) : Type 0 where
  pub start : IsTime z end a
  pub last : IsTime z end b
  pub pace : IsSlope z (w /ℚ (b -ℚ a))

abbrev pub StepStands : Sizes → ℚ → Step → Type 0
StepStands z end (Enter f p t b) = IsTime z end t
StepStands z end (Reach s p t) = IsTime z end t
StepStands z end (Work s p a b w) = IsWorkTime z end a b w
StepStands z end (Leave s p t) = IsTime z end t
StepStands z end (Visit s q t) = Unit {0}

-- the bits of all packets that arrive at a server
abbrev pub bits_in : List ServerStep → ℕ
bits_in [] = 0
bits_in (Arrives c t ∷ V) = c.bits + bits_in V
bits_in (Works c a b w ∷ V) = bits_in V
bits_in (Leaves c t ∷ V) = bits_in V
bits_in (Visits q t ∷ V) = bits_in V

-- its steps, the bits that arrive at each server, and the curves up to its end; no flow has more than 2 ^ 32 packets
pub record RunStands (z : Sizes) (net : Net) (run : SpecRun) : Type 0 where
  pub limited : AreLimited z run.end
  pub steps : AllByRecursion (StepStands z run.end) run.steps
  pub bits : (s : ℕ) → s < length net.servers → bits_in (view (routes_of net) run s) ≤ z.largest
  pub services : (s : ℕ) → s < length net.servers → Stands z (curve_numbers run.end (service net s))
  pub arrivals : (flow : ℕ) → IsTrue (is_live net flow) → Stands z (curve_numbers run.end (arrival net flow))
  pub few : (flow : ℕ) → length (entries flow run.steps) ≤ 2 ^ 32

-- by some sizes
abbrev pub HaveSizes : Net → SpecRun → Type 0
HaveSizes net run = (z : Sizes) × RunStands z net run
