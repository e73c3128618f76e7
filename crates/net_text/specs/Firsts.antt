-- The first curve of a file that is over a limit: services of servers in order, then arrivals of flows in order, each
-- curve before its closure. Own choice.
use Rattle.std.specs.Prelude.{◌⊎◌, ◌+◌, ℕ, List, [], ◌∷◌, ◌++◌, Bool, false, codes, Ok}
use Rattle.upp_curve.specs.Curve.{SpecCurve}
use Rattle.net_draft.specs.declared.fault.DraftFault.{DraftFault}
use Rattle.net_draft.specs.declared.fault.DraftFault.TheVariants as answers
use Rattle.net_draft.specs.Faults.{Fault, fault_of, under, nth}
use Rattle.net_draft.specs.Texts.{CurveText, ServerText, FlowText, DraftText}
use Rattle.net_text.specs.Becoming.{Becomes, IsOverAt, FailsAt}

-- the text of a curve, its place, and whether its closure is asked for
pub record PlacedCurve : Type 0 where
  pub place : List ℕ
  pub text : CurveText
  pub closes : Bool

abbrev pub service_place : ℕ → List ℕ
service_place number = under (nth (codes "server") number) (codes "service")

abbrev pub arrival_place : ℕ → List ℕ
arrival_place number = under (nth (codes "flow") number) (codes "arrival")

-- the services of servers with the numbers from this one on
abbrev pub services_from : ℕ → List ServerText → List PlacedCurve
services_from number [] = []
services_from number (s ∷ ss) =
    record { place = service_place number; text = s.service; closes = false } ∷ services_from (number + 1) ss

abbrev pub arrivals_from : ℕ → List FlowText → List PlacedCurve
arrivals_from number [] = []
arrivals_from number (f ∷ fs) =
    record { place = arrival_place number; text = f.arrival; closes = f.closes } ∷ arrivals_from (number + 1) fs

abbrev pub curves_of : DraftText → List PlacedCurve
curves_of d = services_from 0 d.servers ++ arrivals_from 0 d.flows

-- a curve that is over no limit
pub record Fits (e : PlacedCurve) : Type 0 where
  pub curve : SpecCurve
  pub is : Becomes e.closes e.text (Ok curve)

-- the first of the curves that is over a limit has this fault
abbrev pub FirstCurveOver : List PlacedCurve → Fault → Type 0
FirstCurveOver [] f = ⊥
FirstCurveOver (e ∷ es) f = IsOverAt (Becomes e.closes e.text) e.place f ⊎ (Fits e × FirstCurveOver es f)

abbrev pub FailsFirst : List PlacedCurve → DraftFault → Type 0
FailsFirst es answers.NoMemory = Unit {0}
FailsFirst es (answers.Fault f) = FirstCurveOver es (fault_of f)

-- the arrival of the flow of this number, or its closure, is over a limit
abbrev pub FailsArrival : Bool → CurveText → ℕ → DraftFault → Type 0
FailsArrival closes text number = FailsAt (Becomes closes text) (arrival_place number)
