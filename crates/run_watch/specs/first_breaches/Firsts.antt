-- What a run of a network breaks first, and the breaches of one kind. Own choice.
use Rattle.std.specs.Prelude.{◌≡◌, ℕ, ◌<◌, Option, MatchOption, length}
use Rattle.upp_curve.specs.Curve.{value_at}
use Rattle.upp_curve.specs.Curves.{IsCurve}
use Rattle.run_laws.specs.Runs.{SpecRun}
use Rattle.run_laws.specs.RunPremises.{KeepsPremises}
use Rattle.net_model.specs.declared.breach.Breach.{Breach}
use Rattle.net_model.specs.declared.breach.Breach.TheVariants.{Size, Arrival, Service}
use Rattle.net_model.specs.Networks.{Net}
use Rattle.net_model.specs.NetRoutes.{routes_of}
use Rattle.net_cells.specs.Numbered.{packet, arrival, service}
use Rattle.flow_watch.specs.watch_laws.Breaches.{IsBreach, IsFirstBreach}

-- ---- what is told
-- something that the run breaks, by the network's packet lengths, arrival curves and service curves
abbrev pub IsNetBreach : Net → SpecRun → Breach → Type 0
IsNetBreach net run x = IsBreach (routes_of net) (packet net) (λ i. value_at (arrival net i)) (service net) run x

-- the run keeps its premises; or the breach before which there is none
abbrev pub TellsFirst : Net → SpecRun → Option Breach → Type 0
TellsFirst net run found = MatchOption found
    (KeepsPremises (routes_of net) (packet net) (λ i. value_at (arrival net i)) (λ s. value_at (service net s)) run)
    (IsFirstBreach (routes_of net) (packet net) (λ i. value_at (arrival net i)) (service net) run)

-- ---- parts of the breaches
-- sizes before arrivals before services
abbrev pub kind_of : Breach → ℕ
kind_of (Size flow p) = 0
kind_of (Arrival flow i j) = 1
kind_of (Service s a b) = 2

-- the flow or the server
abbrev pub subject_of : Breach → ℕ
subject_of (Size flow p) = flow
subject_of (Arrival flow i j) = flow
subject_of (Service s a b) = s

-- those of a kind at the flow or server of a number; at those below a number
pub record IsOne (net : Net) (run : SpecRun) (kind number : ℕ) (x : Breach) : Type 0 where
  pub kind_is : kind_of x ≡ kind
  pub at : subject_of x ≡ number
  pub breaks : IsNetBreach net run x

pub record IsBelow (net : Net) (run : SpecRun) (kind number : ℕ) (x : Breach) : Type 0 where
  pub kind_is : kind_of x ≡ kind
  pub below : subject_of x < number
  pub breaks : IsNetBreach net run x

-- those of the kinds below a number
pub record IsOfKinds (net : Net) (run : SpecRun) (kinds : ℕ) (x : Breach) : Type 0 where
  pub kind_is : kind_of x < kinds
  pub breaks : IsNetBreach net run x

-- ---- curves
-- a server's curve is in normal form, and readable; and so that of each server
abbrev pub HasService : Net → ℕ → Type 0
HasService net s = IsCurve (service net s)

abbrev pub HaveServices : Net → Type 0
HaveServices net = (s : ℕ) → s < length net.servers → HasService net s
