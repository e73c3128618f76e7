-- What a run is taken to keep: its flows' sizes and arrival curves, and its servers' service curves.
use Rattle.std.specs.Prelude.{◌≡◌, ◌<◌, ◌≤◌, ℕ, pos, Bool, true, ◌==◌, ◌&&◌, List, [], ◌∷◌, length}
use Rattle.rational.specs.Rational.{ℚ, int, ◌+ℚ◌, ◌-ℚ◌, ◌≤ℚ◌}
use Rattle.rational.specs.Extended.{Ext, ◌≤ₑ◌}
use Rattle.rational.specs.declared.Extended.TheVariants.{Fin}
use Rattle.run_laws.specs.declared.steps.Step.{Step}
use Rattle.run_laws.specs.declared.steps.Step.TheVariants.{Enter, Reach, Work, Leave, Visit}
use Rattle.run_laws.specs.Runs.{SpecRun}
use Rattle.run_laws.specs.Cards.{whole}
use Rattle.run_laws.specs.Counts.{when, within}
use Rattle.run_laws.specs.Premises.{KeepsService}
use Rattle.run_laws.specs.Routes.{Routes, route_of}
use Rattle.run_laws.specs.Views.{view}

-- the bits of a flow that enter at times that pass a test, as those in a closed window
abbrev pub enters : ℕ → (ℚ → Bool) → List Step → ℚ
enters flow test [] = int (pos 0)
enters flow test (Enter f p t b ∷ xs) = when ((f == flow) && test t) (whole b) +ℚ enters flow test xs
enters flow test (Reach r p t ∷ xs) = enters flow test xs
enters flow test (Work r p a b w ∷ xs) = enters flow test xs
enters flow test (Leave r p t ∷ xs) = enters flow test xs
enters flow test (Visit r q t ∷ xs) = enters flow test xs

abbrev pub entered_in : ℕ → ℚ → ℚ → List Step → ℚ
entered_in flow s t xs = enters flow (within s t) xs

-- each packet of the flow that enters has at most so many bits
abbrev pub EnterSizes : ℕ → ℕ → List Step → Type 0
EnterSizes flow bits [] = Unit {0}
EnterSizes flow bits (Enter f p u b ∷ xs) = (f ≡ flow → b ≤ bits) × EnterSizes flow bits xs
EnterSizes flow bits (Reach r p u ∷ xs) = EnterSizes flow bits xs
EnterSizes flow bits (Work r p a b w ∷ xs) = EnterSizes flow bits xs
EnterSizes flow bits (Leave r p u ∷ xs) = EnterSizes flow bits xs
EnterSizes flow bits (Visit r q u ∷ xs) = EnterSizes flow bits xs

-- by each flow's longest packet and arrival curve, and each server's service curve
pub record KeepsPremises (net : Routes) (packet : ℕ → ℕ) (α β : ℕ → ℚ → Ext) (run : SpecRun) : Type 0 where
  pub sizes : (flow : ℕ) → (route_of net flow).live ≡ true → EnterSizes flow (packet flow) run.steps
  pub arrivals : (flow : ℕ) → (route_of net flow).live ≡ true → (s t : ℚ) → s ≤ℚ t →
      Fin (entered_in flow s t run.steps) ≤ₑ α flow (t -ℚ s)
  pub service : (server : ℕ) → server < length net.servers → KeepsService (β server) run.end (view net run server)
