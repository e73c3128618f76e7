-- What a formula means by a table of the values of its cells: each operator by its definition, and no limit. (Le Boudec
-- and Thiran; that a curve is its normal form is our own choice.)
use Rattle.std.specs.Prelude.{◌≡◌, ℕ, List, [], ◌∷◌, ◌++◌, map, Some}
use Rattle.rational.specs.Rational.{ℚ}
use Rattle.rational.specs.Extended.{Ext, min_ext}
use Rattle.rational.specs.declared.Extended.TheVariants.{Fin}
use Rattle.upp_limits.specs.declared.op_kind.OpKind.TheVariants.{Sum, Min, Shift, FifoLeft}
use Rattle.upp_curve.specs.Curve.{SpecCurve, value_at}
use Rattle.upp_curve.specs.Curves.{IsCurve}
use Rattle.upp_curve.specs.Kinds.{bucket}
use Rattle.min_plus.specs.Deviations.{IsHorizontalDeviation, IsVerticalDeviation}
use Rattle.residuals.specs.CurveCalls.{IsMadeBy}
use Rattle.residuals.specs.left.Laws.{IsPriorityService, IsDrrService}
use Rattle.run_laws.specs.Cards.{whole}
use Rattle.net_cells.specs.declared.cell.Cell.{Cell}
use Rattle.net_cells.specs.Numbered.{zero_curve}
use Rattle.net_cells.specs.Meanings.{Meaning, curve, number, CellTable, IsCurveIn, IsNumberIn}
use Rattle.net_cells.specs.NumberSums.{sum_of_numbers}
use Rattle.net_cells.specs.Formulas.{Formula, value_of, given, empty_sum, made, made_of, moved, cut, part, no_part, leftover, priority, deficit, horizontal, vertical, smaller, along, delayed}

-- ---- operands
-- P gives a curve, and v comes of it by R; so of two curves, of a number, of two numbers
pub record OfCurve (P : Meaning → Type 0) (R : SpecCurve → Meaning → Type 0) (v : Meaning) : Type 0 where
  pub operand : SpecCurve
  pub is : P (curve operand)
  pub gives : R operand v

pub record OfNumber (P : Meaning → Type 0) (R : Ext → Meaning → Type 0) (v : Meaning) : Type 0 where
  pub operand : Ext
  pub is : P (number operand)
  pub gives : R operand v

abbrev pub OfCurves : (P Q : Meaning → Type 0) → (SpecCurve → SpecCurve → Meaning → Type 0) → Meaning → Type 0
OfCurves P Q R = OfCurve P (λ f. OfCurve Q (R f))

abbrev pub OfNumbers : (P Q : Meaning → Type 0) → (Ext → Ext → Meaning → Type 0) → Meaning → Type 0
OfNumbers P Q R = OfNumber P (λ x. OfNumber Q (R x))

-- the cells have these numbers
abbrev pub HaveNumbers : CellTable → List Cell → List Ext → Type 0
HaveNumbers at [] [] = Unit {0}
HaveNumbers at [] (x ∷ xs) = ⊥
HaveNumbers at (c ∷ cs) [] = ⊥
HaveNumbers at (c ∷ cs) (x ∷ xs) = (at c ≡ Some (number x)) × HaveNumbers at cs xs

pub record OfCells (at : CellTable) (cells : List Cell) (R : List Ext → Meaning → Type 0) (v : Meaning) : Type 0 where
  pub numbers : List Ext
  pub are : HaveNumbers at cells numbers
  pub gives : R numbers v

-- ---- services of queues, as curves
pub record IsPriorityCurve (β higher : SpecCurve) (lower : ℕ) (h : SpecCurve) : Type 0 where
  pub curve : IsCurve h
  pub serves : IsPriorityService (value_at β) (value_at higher) lower (value_at h)

pub record IsDrrCurve (β : SpecCurve) (quanta longest : List ℕ) (queue : ℕ) (h : SpecCurve) : Type 0 where
  pub curve : IsCurve h
  pub serves : IsDrrService (value_at β) quanta longest queue (value_at h)

-- numbers, and then links
abbrev pub with_links : List Ext → List ℚ → List Ext
with_links xs links = xs ++ map Fin links

-- ---- sums of curves
-- of one and those after it, added up in their order; of none 0
abbrev pub IsSumOnto : SpecCurve → List SpecCurve → Meaning → Type 0
IsSumOnto f [] v = v ≡ curve f
IsSumOnto f (g ∷ gs) v = OfCurve (IsCurveIn (IsMadeBy Sum f g)) (λ h. IsSumOnto h gs) v

abbrev pub IsSumOf : List SpecCurve → Meaning → Type 0
IsSumOf [] v = v ≡ curve zero_curve
IsSumOf (f ∷ fs) v = IsSumOnto f fs v

-- ---- formulas, where these parts have been made before
abbrev pub MeansFrom : CellTable → Formula → List SpecCurve → Meaning → Type 0
MeansFrom at (value_of c) fs v = at c ≡ Some v
MeansFrom at (given f) fs v = v ≡ curve f
MeansFrom at empty_sum fs v = v ≡ curve zero_curve
MeansFrom at (made op F G) fs v = OfCurves (MeansFrom at F []) (MeansFrom at G [])
    (λ f g. IsCurveIn (IsMadeBy op f g)) v
MeansFrom at (made_of op F) fs v = OfCurve (MeansFrom at F []) (λ f. IsCurveIn (IsMadeBy op f f)) v
MeansFrom at (moved F T) fs v = OfCurve (MeansFrom at F [])
    (λ f. OfNumber (MeansFrom at T []) (λ x. IsCurveIn (IsMadeBy (Shift x) f f))) v
MeansFrom at (cut F server bits rate) fs v =
    OfCurve (MeansFrom at F []) (λ f. IsCurveIn (IsMadeBy Min f (bucket (whole bits) rate))) v
MeansFrom at (part F G) fs v = OfCurve (MeansFrom at F []) (λ f. MeansFrom at G (fs ++ f ∷ [])) v
MeansFrom at no_part fs v = IsSumOf fs v
MeansFrom at (leftover F G T) fs v =
    OfCurves (MeansFrom at F []) (MeansFrom at G [])
    (λ f g. OfNumber (MeansFrom at T []) (λ x. IsCurveIn (IsMadeBy (FifoLeft x) f g))) v
MeansFrom at (priority f F lower) fs v = OfCurve (MeansFrom at F []) (λ g. IsCurveIn (IsPriorityCurve f g lower)) v
MeansFrom at (deficit f quanta longest queue) fs v = IsCurveIn (IsDrrCurve f quanta longest queue) v
MeansFrom at (horizontal F G) fs v =
    OfCurves (MeansFrom at F []) (MeansFrom at G [])
    (λ f g. IsNumberIn (IsHorizontalDeviation (value_at f) (value_at g))) v
MeansFrom at (vertical F G) fs v =
    OfCurves (MeansFrom at F []) (MeansFrom at G [])
    (λ f g. IsNumberIn (IsVerticalDeviation (value_at f) (value_at g))) v
MeansFrom at (smaller F G) fs v = OfNumbers (MeansFrom at F []) (MeansFrom at G [])
    (λ x y w. w ≡ number (min_ext x y)) v
MeansFrom at (along cells links) fs v = OfCells at cells (λ xs w. w ≡ number (sum_of_numbers (with_links xs links))) v
MeansFrom at (delayed F links) fs v = OfNumber (MeansFrom at F [])
    (λ x w. w ≡ number (sum_of_numbers (with_links (x ∷ []) links))) v

abbrev pub Means : CellTable → Formula → Meaning → Type 0
Means at F v = MeansFrom at F [] v
