-- What a curve promises, each weaker one promises too: an arrival curve that is nowhere lower, a service curve that is
-- nowhere higher. So a curve may be rounded to its safe side. (Le Boudec and Thiran, chapter 1.)
use Rattle.std.specs.Prelude.{◌≡◌, ◌<◌, ℕ, true, List, length}
use Rattle.rational.specs.Rational.{ℚ, ◌≤ℚ◌}
use Rattle.rational.specs.Extended.{Ext, ◌≤ₑ◌}
use Rattle.min_plus.specs.Functions.{zero_q}
use Rattle.run_laws.specs.Runs.{SpecRun}
use Rattle.run_laws.specs.Cards.{Class, ServerStep}
use Rattle.run_laws.specs.Premises.{KeepsArrivals, KeepsService}
use Rattle.run_laws.specs.Serves.{Serves, ServesPackets}
use Rattle.run_laws.specs.Routes.{Routes, route_of}
use Rattle.run_laws.specs.RunPremises.{KeepsPremises}

-- from 0 on f is at most g
abbrev pub IsNowhereAbove : (ℚ → Ext) → (ℚ → Ext) → Type 0
IsNowhereAbove f g = (t : ℚ) → zero_q ≤ℚ t → f t ≤ₑ g t

-- ---- arrival curves
-- of a class at one server
abbrev pub GreaterIsKept : Type 0
GreaterIsKept = (view : List ServerStep) (C : Class) (α greater : ℚ → Ext) → IsNowhereAbove α greater →
    KeepsArrivals C α view → KeepsArrivals C greater view

-- of a run: it keeps its premises with greater arrival curves and lesser service curves
abbrev pub WeakerPremisesAreKept : Type 0
WeakerPremisesAreKept = (net : Routes) (run : SpecRun) (packet : ℕ → ℕ) (α greater β lesser : ℕ → ℚ → Ext) →
    ((flow : ℕ) → (route_of net flow).live ≡ true → IsNowhereAbove (α flow) (greater flow)) →
    ((server : ℕ) → server < length net.servers → IsNowhereAbove (lesser server) (β server)) →
    KeepsPremises net packet α β run → KeepsPremises net packet greater lesser run

-- ---- service curves
-- of a server
abbrev pub LesserIsKept : Type 0
LesserIsKept = (end : ℚ) (view : List ServerStep) (β lesser : ℚ → Ext) → IsNowhereAbove lesser β →
    KeepsService β end view → KeepsService lesser end view

-- of a class
abbrev pub LesserServes : Type 0
LesserServes = (end : ℚ) (view : List ServerStep) (C : Class) (β lesser : ℚ → Ext) → IsNowhereAbove lesser β →
    Serves C β end view → Serves C lesser end view

-- and of its whole packets
abbrev pub LesserServesPackets : Type 0
LesserServesPackets = (end : ℚ) (view : List ServerStep) (C : Class) (γ lesser : ℚ → Ext) → IsNowhereAbove lesser γ →
    ServesPackets C γ end view → ServesPackets C lesser end view
