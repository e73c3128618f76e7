-- What a run breaks, and what it breaks first.
use Rattle.std.specs.Prelude.{◌≡◌, ◌⊎◌, ◌<◌, ℕ, true, List, [], ◌∷◌, length}
use Rattle.rational.specs.Rational.{ℚ, ◌-ℚ◌, ◌<ℚ◌}
use Rattle.rational.specs.Extended.{Ext, ◌<ₑ◌, ◌+ₑ◌}
use Rattle.rational.specs.declared.Extended.TheVariants.{Fin}
use Rattle.upp_curve.specs.Curve.{SpecCurve, value_at}
use Rattle.run_laws.specs.Runs.{SpecRun}
use Rattle.run_laws.specs.Cards.{all, whole, ServerStep}
use Rattle.run_laws.specs.Counts.{worked}
use Rattle.run_laws.specs.Routes.{Routes, route_of}
use Rattle.run_laws.specs.Views.{view}
use Rattle.net_model.specs.declared.breach.Breach.{Breach}
use Rattle.net_model.specs.declared.breach.Breach.TheVariants.{Size, Arrival, Service}
use Rattle.flow_watch.specs.watch_laws.Breaks.{IsBreak}
use Rattle.flow_watch.specs.watch_laws.Entries.{entries, entering, IsCrowded}
use Rattle.flow_watch.specs.watch_laws.Stretches.{IsAround, IsWatchPoint}

-- ---- one server
-- from a to b, two watch points in one stretch, it works less than its curve at that length
pub record IsIdle (end : ℚ) (V : List ServerStep) (c : SpecCurve) (a b : ℚ) : Type 0 where
  pub first : IsWatchPoint end V (IsBreak c) a
  pub last : IsWatchPoint end V (IsBreak c) b
  pub forward : a <ℚ b
  pub stretch : (u e : ℚ) × IsAround end V a b u e
  pub less : Fin (worked all V b) <ₑ (Fin (worked all V a) +ₑ value_at c (b -ℚ a))

-- ---- a run
-- a packet longer than its flow allows
pub record IsTooLong (net : Routes) (packet : ℕ → ℕ) (run : SpecRun) (flow number : ℕ) : Type 0 where
  pub live : (route_of net flow).live ≡ true
  pub entered : number < length (entries flow run.steps)
  pub more : packet flow < (entering (entries flow run.steps) number).bits

-- too many bits between two packets of a flow
pub record IsTooFast (net : Routes) (α : ℕ → ℚ → Ext) (run : SpecRun) (flow first last : ℕ) : Type 0 where
  pub live : (route_of net flow).live ≡ true
  pub crowded : IsCrowded (α flow) (entries flow run.steps) first last

-- too little work between two watch points
pub record IsTooSlow (net : Routes) (service : ℕ → SpecCurve) (run : SpecRun) (server : ℕ) (a b : ℚ) : Type 0 where
  pub known : server < length net.servers
  pub idle : IsIdle run.end (view net run server) (service server) a b

abbrev pub IsBreach : Routes → (ℕ → ℕ) → (ℕ → ℚ → Ext) → (ℕ → SpecCurve) → SpecRun → Breach → Type 0
IsBreach net packet α service run (Size flow number) = IsTooLong net packet run flow number
IsBreach net packet α service run (Arrival flow first last) = IsTooFast net α run flow first last
IsBreach net packet α service run (Service server a b) = IsTooSlow net service run server a b

-- ---- the order of breaches
-- by time, then by kind, then by flow or server; then the least packet, the least last packet and then the least first
-- one, or the least start
abbrev pub order_key : SpecRun → Breach → List ℚ
order_key run (Size flow number) =
    (entering (entries flow run.steps) number).time ∷ whole 0 ∷ whole flow ∷ whole number ∷ []
order_key run (Arrival flow first last) =
    (entering (entries flow run.steps) last).time ∷ whole 1 ∷ whole flow ∷ whole last ∷ whole first ∷ []
order_key run (Service server a b) = b ∷ whole 2 ∷ whole server ∷ a ∷ []

-- keys compare by the first number at which they differ
abbrev pub NoLater : List ℚ → List ℚ → Type 0
NoLater [] ys = Unit {0}
NoLater (x ∷ xs) [] = ⊥
NoLater (x ∷ xs) (y ∷ ys) = (x <ℚ y) ⊎ (x ≡ y) × NoLater xs ys

-- a breach, and none comes before it
pub record IsFirstBreach (net : Routes) (packet : ℕ → ℕ) (α : ℕ → ℚ → Ext) (service : ℕ → SpecCurve) (run : SpecRun)
    (x : Breach) : Type 0 where
  pub is : IsBreach net packet α service run x
  pub least : (y : Breach) → IsBreach net packet α service run y → NoLater (order_key run x) (order_key run y)
