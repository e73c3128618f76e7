-- The first of some breaches, by time, then by kind, then by flow or server. Own choice.
use Rattle.std.specs.Prelude.{◌≡◌, ◌⊎◌, ◌<◌, ◌||◌, ℕ, Bool, true, List, length, Option, Some, None, if◌then◌else◌}
use Rattle.rational.specs.Rational.{ℚ, ◌≤ℚ◌, lt_q}
use Rattle.run_laws.specs.Runs.{SpecRun}
use Rattle.net_model.specs.declared.breach.Breach.{Breach}
use Rattle.net_model.specs.declared.breach.Breach.TheVariants.{Size, Arrival, Service}
use Rattle.rational.specs.Extended.{Ext}
use Rattle.upp_curve.specs.Curve.{SpecCurve}
use Rattle.run_laws.specs.Cards.{ServerStep}
use Rattle.flow_watch.specs.declared.watch_laws.entering.Entering.{Entering}
use Rattle.flow_watch.specs.watch_laws.Breaches.{order_key, NoLater, IsIdle}
use Rattle.flow_watch.specs.watch_laws.Shorts.{IsPastEnd}
use Rattle.flow_watch.specs.watch_laws.Entries.{entries, entering, IsCrowded, EntersFrom}
use Rattle.run_watch.specs.declared.found.Found.{Found}

abbrev pub time_of : SpecRun → Breach → ℚ
time_of run (Size flow p) = (entering (entries flow run.steps) p).time
time_of run (Arrival flow i j) = (entering (entries flow run.steps) j).time
time_of run (Service s a b) = b

-- one of these breaches, with its time, and none of them comes before it
pub record IsFirstOf (P : Breach → Type 0) (run : SpecRun) (f : Found) : Type 0 where
  pub is : P f.breach
  pub time : f.time ≡ time_of run f.breach
  pub least : (y : Breach) → P y → NoLater (order_key run f.breach) (order_key run y)

-- the first of them; none where there is none
abbrev pub IsBest : (Breach → Type 0) → SpecRun → Option Found → Type 0
IsBest P run None = (y : Breach) → ¬ P y
IsBest P run (Some f) = IsFirstOf P run f

-- none, where none of them is before `until`; or the first of them
abbrev pub IsBestBefore : Option ℚ → (Breach → Type 0) → SpecRun → Option Found → Type 0
IsBestBefore until P run None = (y : Breach) → P y → IsPastEnd until (time_of run y)
IsBestBefore until P run (Some f) = IsFirstOf P run f

-- its time
abbrev pub time_if_any : Option Found → Option ℚ
time_if_any None = None
time_if_any (Some f) = Some f.time

-- the earlier of two; the first where their times are one
abbrev pub earlier : Option Found → Option Found → Option Found
earlier None next = next
earlier (Some f) None = Some f
earlier (Some f) (Some g) = if lt_q g.time f.time then Some g else Some f

-- each of the first goes before each of the others where its time is no later
abbrev pub GoesBefore : SpecRun → (Breach → Type 0) → (Breach → Type 0) → Type 0
GoesBefore run P Q = (x y : Breach) → P x → Q y → time_of run x ≤ℚ time_of run y
    → NoLater (order_key run x) (order_key run y)

-- R is P and Q together
pub record IsBoth (P Q R : Breach → Type 0) : Type 0 where
  pub of_one : (y : Breach) → R y → P y ⊎ Q y
  pub first : (y : Breach) → P y → R y
  pub other : (y : Breach) → Q y → R y

-- ---- of one flow
-- its packets that are longer than it allows
abbrev pub IsLongOn : SpecRun → ℕ → ℕ → Breach → Type 0
IsLongOn run flow longest (Size f p) = (f ≡ flow) × (p < length (entries flow run.steps))
    × (longest < (entering (entries flow run.steps) p).bits)
IsLongOn run flow longest (Arrival f i j) = ⊥
IsLongOn run flow longest (Service s a b) = ⊥

-- its crowded pairs
abbrev pub IsCrowdOn : SpecRun → ℕ → (ℚ → Ext) → Breach → Type 0
IsCrowdOn run flow α (Size f p) = ⊥
IsCrowdOn run flow α (Arrival f i j) = (f ≡ flow) × IsCrowded α (entries flow run.steps) i j
IsCrowdOn run flow α (Service s a b) = ⊥

-- ---- of one server
-- its idle windows
abbrev pub IsIdleOn : ℚ → List ServerStep → ℕ → SpecCurve → Breach → Type 0
IsIdleOn end V server c (Size f p) = ⊥
IsIdleOn end V server c (Arrival f i j) = ⊥
IsIdleOn end V server c (Service s a b) = (s ≡ server) × IsIdle end V c a b

abbrev pub EnterInOrder : List Entering → Type 0
EnterInOrder es = (t : ℚ) × EntersFrom t es

-- the earlier of the firsts of two sets of breaches, which tests tell, is the first of both
abbrev pub EarlierIsFirst : Type 0
EarlierIsFirst = (run : SpecRun) (p q : Breach → Bool) (f g : Option Found) → IsBest (λ y. p y ≡ true) run f
    → IsBest (λ y. q y ≡ true) run g →
    GoesBefore run (λ y. p y ≡ true) (λ y. q y ≡ true) → IsBest (λ y. (p y || q y) ≡ true) run (earlier f g)
