-- What making a formula's value may answer, by a table of the values of its cells: the value, or what the first
-- operator that is over a limit is refused for. Own choice.
use Rattle.std.specs.Prelude.{◌≡◌, ◌≢◌, List, [], ◌∷◌, ◌++◌, Some, Result, Ok, Err}
use Rattle.rational.specs.Rational.{ℚ}
use Rattle.rational.specs.Extended.{Ext, min_ext}
use Rattle.upp_limits.specs.declared.op_kind.OpKind.{OpKind}
use Rattle.upp_limits.specs.declared.op_kind.OpKind.TheVariants.{Sum, Min, Shift, FifoLeft, Horizontal, Vertical}
use Rattle.upp_limits.specs.declared.op_kind.OpFault.{OpFault}
use Rattle.upp_limits.specs.declared.op_kind.OpFault.TheVariants.{NoMemory}
use Rattle.upp_curve.specs.Curve.{SpecCurve, value_at}
use Rattle.upp_curve.specs.Kinds.{bucket}
use Rattle.min_plus.specs.Deviations.{IsHorizontalDeviation, IsVerticalDeviation}
use Rattle.upp_limits.specs.Outcome.{IsWithin, IsCauseOf}
use Rattle.residuals.specs.CurveCalls.{IsAgain, Applies, AppliesTo}
use Rattle.outcomes.specs.Calls.{Then}
use Rattle.residuals.specs.calls.PriorityCalls.{MakesPriority}
use Rattle.residuals.specs.calls.DrrCalls.{MakesDrr}
use Rattle.run_laws.specs.Cards.{whole}
use Rattle.net_cells.specs.declared.cell.Cell.{Cell}
use Rattle.net_cells.specs.Numbered.{zero_curve}
use Rattle.net_cells.specs.Meanings.{Meaning, curve, number, CellTable, IsCurveIn, IsNumberIn}
use Rattle.net_cells.specs.NumberSums.{Sums}
use Rattle.net_cells.specs.Means.{HaveNumbers, with_links}
use Rattle.net_cells.specs.Formulas.{Formula, value_of, given, empty_sum, made, made_of, moved, cut, part, no_part, leftover, priority, deficit, horizontal, vertical, smaller, along, delayed}

abbrev pub Answer : Type 0
Answer = Result Meaning OpFault

-- ---- answers of one call
-- a value, and nothing else
abbrev pub IsOnly : (Meaning → Type 0) → Answer → Type 0
IsOnly P (Ok v) = P v
IsOnly P (Err fault) = ⊥

-- those of a call that makes a curve, and of one that makes a number
abbrev pub MakesCurve : (Result SpecCurve OpFault → Type 0) → Answer → Type 0
MakesCurve P (Ok v) = IsCurveIn (λ f. P (Ok f)) v
MakesCurve P (Err fault) = P (Err fault)

abbrev pub MakesNumber : (Result Ext OpFault → Type 0) → Answer → Type 0
MakesNumber P (Ok v) = IsNumberIn (λ x. P (Ok x)) v
MakesNumber P (Err fault) = P (Err fault)

-- a deviation: it takes no memory
abbrev pub Deviates : OpKind → ((ℚ → Ext) → (ℚ → Ext) → Ext → Type 0) → SpecCurve → SpecCurve → Result Ext OpFault
    → Type 0
Deviates op D f g (Ok x) = IsWithin op f g × D (value_at f) (value_at g) x
Deviates op D f g (Err fault) = IsCauseOf op f g fault × (fault ≢ NoMemory)

-- ---- calls on operands
-- on a curve, on a number; a value of the other sort has no answer
abbrev pub OnCurve : (SpecCurve → Answer → Type 0) → Meaning → Answer → Type 0
OnCurve Q (curve f) r = Q f r
OnCurve Q (number x) r = ⊥

abbrev pub OnNumber : (Ext → Answer → Type 0) → Meaning → Answer → Type 0
OnNumber Q (curve f) r = ⊥
OnNumber Q (number x) r = Q x r

-- on what P answers, where that is a curve; so on two curves, on a number, on two numbers
abbrev pub ThenCurve : (Answer → Type 0) → (SpecCurve → Answer → Type 0) → Answer → Type 0
ThenCurve P Q r = Then P (OnCurve Q) r

abbrev pub ThenNumber : (Answer → Type 0) → (Ext → Answer → Type 0) → Answer → Type 0
ThenNumber P Q r = Then P (OnNumber Q) r

abbrev pub ThenCurves : (P Q : Answer → Type 0) → (SpecCurve → SpecCurve → Answer → Type 0) → Answer → Type 0
ThenCurves P Q R r = ThenCurve P (λ f. ThenCurve Q (R f)) r

abbrev pub ThenNumbers : (P Q : Answer → Type 0) → (Ext → Ext → Answer → Type 0) → Answer → Type 0
ThenNumbers P Q R r = ThenNumber P (λ x. ThenNumber Q (R x)) r

-- on numbers of cells
pub record ThenCells (at : CellTable) (cells : List Cell) (Q : List Ext → Answer → Type 0) (r : Answer) : Type 0 where
  pub numbers : List Ext
  pub are : HaveNumbers at cells numbers
  pub answers : Q numbers r

-- ---- sums of curves
-- of one and those after it, added up in their order; of none 0
abbrev pub SumsOnto : SpecCurve → List SpecCurve → Answer → Type 0
SumsOnto f [] r = MakesCurve (IsAgain f) r
SumsOnto f (g ∷ gs) r = ThenCurve (MakesCurve (Applies Sum f g)) (λ h. SumsOnto h gs) r

abbrev pub SumsOf : List SpecCurve → Answer → Type 0
SumsOf [] r = MakesCurve (IsAgain zero_curve) r
SumsOf (f ∷ fs) r = SumsOnto f fs r

-- ---- a curve that is cut
-- the lesser of what P answers and a curve B, for which there may be no memory
abbrev pub CutsBy : SpecCurve → (Answer → Type 0) → Answer → Type 0
CutsBy B P r = ThenCurves P (MakesCurve (IsAgain B)) (λ f g. MakesCurve (Applies Min f g)) r

-- ---- formulas, where these parts have been made before
abbrev pub AnswersFrom : CellTable → Formula → List SpecCurve → Answer → Type 0
AnswersFrom at (value_of c) fs r = IsOnly (λ v. at c ≡ Some v) r
AnswersFrom at (given f) fs r = MakesCurve (IsAgain f) r
AnswersFrom at empty_sum fs r = MakesCurve (IsAgain zero_curve) r
AnswersFrom at (made op F G) fs r = ThenCurves (AnswersFrom at F []) (AnswersFrom at G [])
    (λ f g. MakesCurve (Applies op f g)) r
AnswersFrom at (made_of op F) fs r = ThenCurve (AnswersFrom at F []) (λ f. MakesCurve (AppliesTo op f)) r
AnswersFrom at (moved F T) fs r =
    ThenCurve (AnswersFrom at F []) (λ f. ThenNumber (AnswersFrom at T []) (λ x. MakesCurve (AppliesTo (Shift x) f))) r
AnswersFrom at (cut F server bits rate) fs r = CutsBy (bucket (whole bits) rate) (AnswersFrom at F []) r
AnswersFrom at (part F G) fs r = ThenCurve (AnswersFrom at F []) (λ f. AnswersFrom at G (fs ++ f ∷ [])) r
AnswersFrom at no_part fs r = SumsOf fs r
AnswersFrom at (leftover F G T) fs r =
    ThenCurves (AnswersFrom at F []) (AnswersFrom at G [])
    (λ f g. ThenNumber (AnswersFrom at T []) (λ x. MakesCurve (Applies (FifoLeft x) f g))) r
AnswersFrom at (priority f F lower) fs r = ThenCurve (AnswersFrom at F []) (λ g. MakesCurve (MakesPriority f g lower)) r
AnswersFrom at (deficit f quanta longest queue) fs r = MakesCurve (MakesDrr f quanta longest queue) r
AnswersFrom at (horizontal F G) fs r =
    ThenCurves (AnswersFrom at F []) (AnswersFrom at G [])
    (λ f g. MakesNumber (Deviates Horizontal IsHorizontalDeviation f g)) r
AnswersFrom at (vertical F G) fs r =
    ThenCurves (AnswersFrom at F []) (AnswersFrom at G [])
    (λ f g. MakesNumber (Deviates Vertical IsVerticalDeviation f g)) r
AnswersFrom at (smaller F G) fs r =
    ThenNumbers (AnswersFrom at F []) (AnswersFrom at G []) (λ x y. IsOnly (λ v. v ≡ number (min_ext x y))) r
AnswersFrom at (along cells links) fs r = ThenCells at cells (λ xs. MakesNumber (Sums (with_links xs links))) r
AnswersFrom at (delayed F links) fs r = ThenNumber (AnswersFrom at F [])
    (λ x. MakesNumber (Sums (with_links (x ∷ []) links))) r

abbrev pub Answers : CellTable → Formula → Answer → Type 0
Answers at F r = AnswersFrom at F [] r
