-- Who keeps a curve in every closed window keeps its subadditive closure there too: a window is cut into windows, and
-- what arrives in it arrives in these. (Le Boudec and Thiran, section 1.2: an arrival curve may be taken subadditive.)
use Rattle.std.specs.Prelude.{ℕ, List}
use Rattle.rational.specs.Rational.{ℚ, ◌≤ℚ◌}
use Rattle.rational.specs.Extended.{Ext}
use Rattle.min_plus.specs.Functions.{zero_q}
use Rattle.min_plus.specs.Convolution.{IsSubadditiveClosure}
use Rattle.run_laws.specs.Runs.{SpecRun}
use Rattle.run_laws.specs.Cards.{Class, ServerStep}
use Rattle.run_laws.specs.Premises.{KeepsArrivals}
use Rattle.run_laws.specs.Routes.{Routes}
use Rattle.run_laws.specs.RunPremises.{KeepsPremises}

-- F is the closure of f at each time from 0 on
abbrev pub IsClosureOf : (ℚ → Ext) → (ℚ → Ext) → Type 0
IsClosureOf F f = (t : ℚ) → zero_q ≤ℚ t → IsSubadditiveClosure f t (F t)

-- at one server
abbrev pub ClosureIsKept : Type 0
ClosureIsKept = (view : List ServerStep) (C : Class) (α F : ℚ → Ext) → IsClosureOf F α → KeepsArrivals C α view →
    KeepsArrivals C F view

-- in a run: it keeps its premises with the closures in place of the flows' curves
abbrev pub ClosuresKeepPremises : Type 0
ClosuresKeepPremises = (net : Routes) (run : SpecRun) (packet : ℕ → ℕ) (α F β : ℕ → ℚ → Ext) →
    ((flow : ℕ) → IsClosureOf (F flow) (α flow)) → KeepsPremises net packet α β run → KeepsPremises net packet F β run
