-- The times of a server's steps, of works also their ends: every turn is one of them, or the run's end.
use Rattle.std.specs.Prelude.{◌≡◌, ◌↔◌, ◌⊎◌, List, [], ◌∷◌}
use Rattle.rational.specs.Rational.{ℚ, ◌≤ℚ◌, ◌<ℚ◌}
use Rattle.run_laws.specs.Cards.{all, ServerStep, Arrives, Works, Leaves, Visits}
use Rattle.run_laws.specs.Counts.{arrived, worked}
use Rattle.run_laws.specs.Servers.{Server}
use Rattle.run_laws.specs.Allows.{IsLawfulView}
use Rattle.flow_watch.specs.watch_laws.Stretches.{IsStretch, IsTurn}

-- ---- the times of arrivals, of leaves, and of the starts and ends of works
abbrev pub arrival_times : List ServerStep → List ℚ
arrival_times [] = []
arrival_times (Arrives c t ∷ V) = t ∷ arrival_times V
arrival_times (Works c a b w ∷ V) = arrival_times V
arrival_times (Leaves c t ∷ V) = arrival_times V
arrival_times (Visits q t ∷ V) = arrival_times V

abbrev pub leave_times : List ServerStep → List ℚ
leave_times [] = []
leave_times (Arrives c t ∷ V) = leave_times V
leave_times (Works c a b w ∷ V) = leave_times V
leave_times (Leaves c t ∷ V) = t ∷ leave_times V
leave_times (Visits q t ∷ V) = leave_times V

-- ---- turns
-- some packet arrives or leaves at t, or some work starts or ends then
abbrev pub IsStepTime : List ServerStep → ℚ → Type 0
IsStepTime [] t = ⊥
IsStepTime (Arrives c u ∷ V) t = (t ≡ u) ⊎ IsStepTime V t
IsStepTime (Works c a b w ∷ V) t = (t ≡ a) ⊎ (t ≡ b) ⊎ IsStepTime V t
IsStepTime (Leaves c u ∷ V) t = (t ≡ u) ⊎ IsStepTime V t
IsStepTime (Visits q u ∷ V) t = IsStepTime V t

abbrev pub TurnsAreTimes : Type 0
TurnsAreTimes = (server : Server) (end : ℚ) (view : List ServerStep) (t : ℚ) → IsLawfulView server end view →
    IsTurn end view t → (t ≡ end) ⊎ IsStepTime view t

-- some packet arrives at t
abbrev pub HasArrival : List ServerStep → ℚ → Type 0
HasArrival [] t = ⊥
HasArrival (Arrives c u ∷ V) t = (t ≡ u) ⊎ HasArrival V t
HasArrival (Works c a b w ∷ V) t = HasArrival V t
HasArrival (Leaves c u ∷ V) t = HasArrival V t
HasArrival (Visits q u ∷ V) t = HasArrival V t

-- a stretch begins exactly where, before the run's end, a packet arrives and all that arrived before it is worked
pub record IsBeginning (end : ℚ) (V : List ServerStep) (u : ℚ) : Type 0 where
  pub arrives : HasArrival V u
  pub in_run : u <ℚ end
  pub caught_up : arrived all V u ≤ℚ worked all V u

abbrev pub StretchesBegin : Type 0
StretchesBegin = (server : Server) (end : ℚ) (view : List ServerStep) (u : ℚ) → IsLawfulView server end view →
    ((e : ℚ) × IsStretch end view u e) ↔ IsBeginning end view u
