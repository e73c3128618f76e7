-- That a run breaks a premise exactly where it has a breach; and the two laws on which that stands.
use Rattle.std.specs.Prelude.{◌≡◌, ◌↔◌, ◌⊎◌, ◌<◌, ℕ, true, List, length}
use Rattle.rational.specs.Rational.{ℚ, ◌-ℚ◌, ◌≤ℚ◌, ◌<ℚ◌}
use Rattle.rational.specs.Extended.{Ext, ◌≤ₑ◌, ◌<ₑ◌, ◌+ₑ◌}
use Rattle.rational.specs.declared.Extended.TheVariants.{Fin}
use Rattle.upp_curve.specs.Curve.{SpecCurve, value_at}
use Rattle.min_plus.specs.Functions.{IsFinite, IsRising, IsNonnegative}
use Rattle.min_plus.specs.Continuity.{IsContinuous}
use Rattle.upp_curve.specs.affine_segment.Pieces.{HasStart}
use Rattle.upp_curve.specs.Normal.{IsNormal}
use Rattle.upp_curve.specs.Unrolled.{unroll}
use Rattle.run_laws.specs.Runs.{SpecRun}
use Rattle.run_laws.specs.Cards.{all, ServerStep}
use Rattle.run_laws.specs.Counts.{worked}
use Rattle.run_laws.specs.Servers.{Server}
use Rattle.run_laws.specs.Allows.{IsLawfulView}
use Rattle.run_laws.specs.Premises.{KeepsService, IsZeroAtStart}
use Rattle.run_laws.specs.Routes.{Routes, route_of}
use Rattle.run_laws.specs.Lawful.{IsLawful}
use Rattle.run_laws.specs.RunPremises.{entered_in, KeepsPremises}
use Rattle.net_model.specs.declared.breach.Breach.{Breach}
use Rattle.flow_watch.specs.watch_laws.Breaks.{IsBreak}
use Rattle.flow_watch.specs.watch_laws.Windows.{IsPair}
use Rattle.flow_watch.specs.watch_laws.Stretches.{IsStretch, IsAround, IsTurn}
use Rattle.flow_watch.specs.watch_laws.Entries.{entries, IsCrowded}
use Rattle.flow_watch.specs.watch_laws.Breaches.{IsIdle, IsBreach, IsFirstBreach}

-- ---- curves
-- a curve that never falls and is nowhere below 0
pub record MayArrive (α : ℚ → Ext) : Type 0 where
  pub rising : IsRising α
  pub nonnegative : IsNonnegative α

-- a curve of pieces, finite, without a jump and 0 at 0
pub record MayServe (c : SpecCurve) : Type 0 where
  pub normal : IsNormal c
  pub finite : IsFinite (value_at c)
  pub continuous : IsContinuous (value_at c)
  pub at_zero : IsZeroAtStart (value_at c)

-- each live flow's curve, and each server's
pub record HaveCurves (net : Routes) (α : ℕ → ℚ → Ext) (service : ℕ → SpecCurve) : Type 0 where
  pub flows : (flow : ℕ) → (route_of net flow).live ≡ true → MayArrive (α flow)
  pub servers : (server : ℕ) → server < length net.servers → MayServe (service server)

-- ---- a flow
-- it keeps its curve in every closed window exactly where it does between each two of its packets
abbrev pub PairsSuffice : Type 0
PairsSuffice = (net : Routes) (run : SpecRun) (flow : ℕ) (α : ℚ → Ext) → IsLawful net run → MayArrive α →
    ((s t : ℚ) → s ≤ℚ t → Fin (entered_in flow s t run.steps) ≤ₑ α (t -ℚ s))
    ↔ ((first last : ℕ) → ¬ IsCrowded α (entries flow run.steps) first last)

-- ---- a server
-- it keeps its curve in every busy window exactly where it does between each two watch points of a stretch
abbrev pub WatchPointsSuffice : Type 0
WatchPointsSuffice = (server : Server) (end : ℚ) (view : List ServerStep) (c : SpecCurve) →
    IsLawfulView server end view → MayServe c →
    KeepsService (value_at c) end view ↔ ((a b : ℚ) → ¬ IsIdle end view c a b)

-- and exactly where it does between each two times of a stretch of which one is a turn, and the other too or one of the
-- curve's times before or after it
abbrev pub TurnsSuffice : Type 0
TurnsSuffice = (server : Server) (end : ℚ) (view : List ServerStep) (c : SpecCurve) →
    IsLawfulView server end view → MayServe c →
    KeepsService (value_at c) end view
    ↔ ((u e a b : ℚ) → IsAround end view a b u e → a <ℚ b → IsPair (IsTurn end view) (IsBreak c) a b →
    (Fin (worked all view a) +ₑ value_at c (b -ℚ a)) ≤ₑ Fin (worked all view b))

-- and so within one stretch: a window of it that is too short of work has one in the same stretch between such times
abbrev pub TurnsSufficeWithin : Type 0
TurnsSufficeWithin = (server : Server) (end : ℚ) (view : List ServerStep) (c : SpecCurve) (u e a b : ℚ) →
    IsLawfulView server end view → MayServe c → IsAround end view a b u e → a <ℚ b →
    Fin (worked all view b) <ₑ (Fin (worked all view a) +ₑ value_at c (b -ℚ a)) →
    (p q : ℚ) × IsAround end view p q u e × (p <ℚ q) × IsPair (IsTurn end view) (IsBreak c) p q
    × (Fin (worked all view q) <ₑ (Fin (worked all view p) +ₑ value_at c (q -ℚ p)))

-- and so between any two turns, as where a stretch is cut at one
abbrev pub TurnsSufficeBetween : Type 0
TurnsSufficeBetween = (server : Server) (end : ℚ) (view : List ServerStep) (c : SpecCurve) (u e a b : ℚ) →
    IsLawfulView server end view → MayServe c → IsTurn end view u → IsTurn end view e → u ≤ℚ a → a <ℚ b → b ≤ℚ e →
    Fin (worked all view b) <ₑ (Fin (worked all view a) +ₑ value_at c (b -ℚ a)) →
    (p q : ℚ) × (u ≤ℚ p) × (p <ℚ q) × (q ≤ℚ e) × IsPair (IsTurn end view) (IsBreak c) p q
    × (Fin (worked all view q) <ₑ (Fin (worked all view p) +ₑ value_at c (q -ℚ p)))

-- two stretches are one, or one ends before the other begins
abbrev pub StretchesAreApart : Type 0
StretchesAreApart = (end : ℚ) (view : List ServerStep) (u e v f : ℚ) → IsStretch end view u e → IsStretch end view v f →
    ((u ≡ v) × (e ≡ f)) ⊎ (e ≤ℚ v) ⊎ (f ≤ℚ u)

-- a break before a time is the start of one of the pieces that are written out up to that time
abbrev pub BreaksAreStarts : Type 0
BreaksAreStarts = (c : SpecCurve) (end x : ℚ) → IsNormal c → IsBreak c x → x <ℚ end → HasStart x (unroll c end)

-- ---- a run
-- it keeps its premises exactly where it has no breach
abbrev pub BreachesTell : Type 0
BreachesTell = (net : Routes) (packet : ℕ → ℕ) (α : ℕ → ℚ → Ext) (service : ℕ → SpecCurve) (run : SpecRun) →
    IsLawful net run → HaveCurves net α service →
    KeepsPremises net packet α (λ s. value_at (service s)) run
    ↔ ((x : Breach) → ¬ IsBreach net packet α service run x)

-- and no two breaches are first
abbrev pub FirstIsOne : Type 0
FirstIsOne = (net : Routes) (packet : ℕ → ℕ) (α : ℕ → ℚ → Ext) (service : ℕ → SpecCurve) (run : SpecRun)
    (x y : Breach) →
    IsFirstBreach net packet α service run x → IsFirstBreach net packet α service run y → x ≡ y
