-- The worst delays of a run.
use Rattle.std.specs.Prelude.{◌≡◌, ◌⊎◌, ℕ, pos, ◌<◌, List, [], ◌∷◌, length, Contains, slice_index_or}
use Rattle.rational.specs.Rational.{ℚ, int, neg_ℚ, ◌≤ℚ◌}
use Rattle.rational.specs.Ratio.{SumFits}
use Rattle.rational.specs.declared.Extended.TheVariants.{Fin}
use Rattle.run_laws.specs.declared.steps.Step.{Step}
use Rattle.run_laws.specs.declared.steps.Step.TheVariants.{Enter, Reach, Work, Leave, Visit}
use Rattle.run_laws.specs.Delays.{AreAtMost}
use Rattle.run_laws.specs.FlowDelays.{delivered_at, delays_from}
use Rattle.run_laws.specs.Routes.{Routes, link_at, route_of, last_server}

-- w is the largest of 0 and of these
pub record IsLargest (xs : List ℚ) (w : ℚ) : Type 0 where
  pub from_zero : int (pos 0) ≤ℚ w
  pub above : AreAtMost (Fin w) xs
  pub reached : (w ≡ int (pos 0)) ⊎ Contains xs w

-- for each flow the largest of 0 and of the delays of its packets that enter among these steps
pub record AreWorst (net : Routes) (end : ℚ) (xs : List Step) (flows : ℕ) (worst : List ℚ) : Type 0 where
  pub as_many : length worst ≡ flows
  pub each : (f : ℕ) → f < flows → IsLargest (delays_from net f end xs) (slice_index_or worst f (int (pos 0)))

-- the sums by which they are found have room
abbrev pub DelaysFit : Routes → ℚ → List Step → Type 0
DelaysFit net end [] = Unit {0}
DelaysFit net end (Enter f p t b ∷ xs) =
    SumFits (delivered_at net end (last_server (route_of net f).hops) p xs) (neg_ℚ t) × DelaysFit net end xs
DelaysFit net end (Reach s p t ∷ xs) = DelaysFit net end xs
DelaysFit net end (Work s p a b w ∷ xs) = DelaysFit net end xs
DelaysFit net end (Leave s p t ∷ xs) = SumFits t (link_at net s) × DelaysFit net end xs
DelaysFit net end (Visit s q t ∷ xs) = DelaysFit net end xs

-- what the steps from a place on tell of the packets of these flows: when each is delivered, and the worst delays
pub record IsTallied (net : Routes) (end : ℚ) (xs : List Step) (flows : List ℕ) (delivered : List ℚ) (many : ℕ)
    (worst : List ℚ) : Type 0 where
  pub long : length delivered ≡ length flows
  pub at : (p : ℕ) → p < length flows
      → slice_index_or delivered p (int (pos 0))
      ≡ delivered_at net end (last_server (route_of net (slice_index_or flows p 0)).hops) p xs
  pub largest : AreWorst net end xs many worst
