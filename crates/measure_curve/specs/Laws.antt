-- What holds of the least arrival curve of packets, and of the least bucket above it.
use Rattle.std.specs.Prelude.{◌≡◌, ℕ, List, [], ◌∷◌}
use Rattle.rational.specs.Rational.{ℚ, ◌-ℚ◌, ◌≤ℚ◌}
use Rattle.rational.specs.Extended.{Ext, ◌≤ₑ◌}
use Rattle.rational.specs.declared.Extended.TheVariants.{Fin}
use Rattle.min_plus.specs.Functions.{zero_q}
use Rattle.min_plus.specs.Formulas.{bucket_value}
use Rattle.run_laws.specs.declared.steps.Step.{Step}
use Rattle.run_laws.specs.declared.steps.Step.TheVariants.{Enter, Reach, Work, Leave, Visit}
use Rattle.run_laws.specs.RunPremises.{entered_in}
use Rattle.net_model.specs.declared.trace.TracePacket.{TracePacket}
use Rattle.measure_curve.specs.Windows.{of_flow, IsLeastArrival, Keep}
use Rattle.measure_curve.specs.Bursts.{IsLeastBurst}

-- the packets keep their least arrival curve
abbrev pub PacketsKeepTheCurve : Type 0
PacketsKeepTheCurve = (ps : List TracePacket) (m : ℚ → Ext) → IsLeastArrival ps m → Keep ps m

-- each curve that they keep is at least it
abbrev pub KeptCurvesAreAbove : Type 0
KeptCurvesAreAbove =
    (ps : List TracePacket) (m α : ℚ → Ext) → IsLeastArrival ps m → Keep ps α → (d : ℚ) → zero_q ≤ℚ d → m d ≤ₑ α d

-- so there is one
abbrev pub LeastArrivalIsOne : Type 0
LeastArrivalIsOne = (ps : List TracePacket) (m n : ℚ → Ext) → IsLeastArrival ps m → IsLeastArrival ps n
    → (d : ℚ) → zero_q ≤ℚ d → m d ≡ n d

-- they keep a bucket, and no bucket of its rate with a smaller burst
pub record IsLeastBucket (ps : List TracePacket) (rate burst : ℚ) : Type 0 where
  pub kept : Keep ps (bucket_value burst rate)
  pub least : (b : ℚ) → Keep ps (bucket_value b rate) → burst ≤ℚ b

-- the least burst above their least arrival curve is that of the least bucket
abbrev pub LeastBucketIsKept : Type 0
LeastBucketIsKept = (ps : List TracePacket) (m : ℚ → Ext) (rate burst : ℚ) → IsLeastArrival ps m
    → IsLeastBurst m rate burst → IsLeastBucket ps rate burst

-- ---- in a run
-- the packets that enter by some steps
abbrev pub entering_in : List Step → List TracePacket
entering_in [] = []
entering_in (Enter f p t b ∷ xs) = record { time = t; flow = f; bits = b } ∷ entering_in xs
entering_in (Reach r p t ∷ xs) = entering_in xs
entering_in (Work r p a b w ∷ xs) = entering_in xs
entering_in (Leave r p t ∷ xs) = entering_in xs
entering_in (Visit r q t ∷ xs) = entering_in xs

-- a flow keeps a curve in a run: what is asked of an arrival curve
abbrev pub KeepsInRun : ℕ → List Step → (ℚ → Ext) → Type 0
KeepsInRun flow steps α = (s t : ℚ) → s ≤ℚ t → Fin (entered_in flow s t steps) ≤ₑ α (t -ℚ s)

-- the least arrival curve of the packets that enter in a run is kept in the run, and is the least that is
pub record IsLeastInRun (flow : ℕ) (steps : List Step) (m : ℚ → Ext) : Type 0 where
  pub kept : KeepsInRun flow steps m
  pub least : (α : ℚ → Ext) → KeepsInRun flow steps α → (d : ℚ) → zero_q ≤ℚ d → m d ≤ₑ α d

abbrev pub LeastInRuns : Type 0
LeastInRuns = (flow : ℕ) (steps : List Step) (m : ℚ → Ext) → IsLeastArrival (of_flow flow (entering_in steps)) m
    → IsLeastInRun flow steps m
