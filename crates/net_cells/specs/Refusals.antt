-- At which of its operators the making of a formula's value is refused, by how many of them are counted by then: the
-- refused one is the last of these. So want of memory at so many says that each of them is within its limits. A sum of
-- numbers is no operator on curves and is not counted; where it is over a limit it has the place of one more. Own choice.
use Rattle.std.specs.Prelude.{◌≡◌, ◌⊎◌, ℕ, List, [], ◌∷◌, ◌++◌}
use Rattle.rational.specs.Extended.{Ext}
use Rattle.upp_limits.specs.declared.op_kind.OpKind.TheVariants.{Sum, Min, Shift, FifoLeft, Horizontal, Vertical}
use Rattle.upp_limits.specs.declared.op_kind.OpFault.{OpFault}
use Rattle.upp_limits.specs.declared.op_kind.OpFault.TheVariants.{NoMemory}
use Rattle.upp_curve.specs.Curve.{SpecCurve}
use Rattle.upp_curve.specs.Kinds.{bucket}
use Rattle.min_plus.specs.Deviations.{IsHorizontalDeviation, IsVerticalDeviation}
use Rattle.residuals.specs.CurveCalls.{IsAgain, Applies, AppliesTo}
use Rattle.residuals.specs.calls.InTurn.{AtCall, InTurn, PriorityRefused, DrrRefused}
use Rattle.run_laws.specs.Cards.{whole}
use Rattle.net_cells.specs.declared.cell.Cell.{Cell}
use Rattle.net_cells.specs.Meanings.{Meaning, curve, number, CellTable}
use Rattle.net_cells.specs.NumberSums.{Sums}
use Rattle.net_cells.specs.Means.{HaveNumbers, with_links}
use Rattle.net_cells.specs.Formulas.{Formula, value_of, given, empty_sum, made, made_of, moved, cut, part, no_part, leftover, priority, deficit, horizontal, vertical, smaller, along, delayed, operators}
use Rattle.net_cells.specs.Answers.{Answer, Answers, MakesCurve, Deviates}

-- ---- in turn
-- no operator is counted, and memory is wanting
abbrev pub AtNone : OpFault → ℕ → Type 0
AtNone fault n = (n ≡ 0) × (fault ≡ NoMemory)

-- after a curve, after a number
abbrev pub FromCurve : (SpecCurve → OpFault → ℕ → Type 0) → Meaning → OpFault → ℕ → Type 0
FromCurve R (curve f) fault n = R f fault n
FromCurve R (number x) fault n = ⊥

abbrev pub FromNumber : (Ext → OpFault → ℕ → Type 0) → Meaning → OpFault → ℕ → Type 0
FromNumber R (curve f) fault n = ⊥
FromNumber R (number x) fault n = R x fault n

-- on the numbers of cells
pub record FromCells (at : CellTable) (cells : List Cell) (R : List Ext → OpFault → ℕ → Type 0) (fault : OpFault) (n : ℕ) : Type 0 where
  pub numbers : List Ext
  pub are : HaveNumbers at cells numbers
  pub refused : R numbers fault n

-- ---- sums of curves, added up from the first on
abbrev pub SumsOntoRefused : SpecCurve → List SpecCurve → OpFault → ℕ → Type 0
SumsOntoRefused f [] fault n = AtNone fault n
SumsOntoRefused f (g ∷ gs) fault n =
    InTurn (AtCall (Applies Sum f g)) (MakesCurve (Applies Sum f g)) 1 (FromCurve (λ h. SumsOntoRefused h gs)) fault n

abbrev pub SumsRefused : List SpecCurve → OpFault → ℕ → Type 0
SumsRefused [] fault n = AtNone fault n
SumsRefused (f ∷ fs) fault n = SumsOntoRefused f fs fault n

-- ---- formulas, where these parts have been made before
abbrev pub RefusedFrom : CellTable → Formula → List SpecCurve → OpFault → ℕ → Type 0
RefusedFrom at (value_of c) fs fault n = ⊥
RefusedFrom at (given f) fs fault n = AtNone fault n
RefusedFrom at empty_sum fs fault n = AtNone fault n
RefusedFrom at (made op F G) fs fault n =
    InTurn (RefusedFrom at F []) (Answers at F) (operators F)
    (FromCurve (λ f. InTurn (RefusedFrom at G []) (Answers at G) (operators G) (FromCurve (λ g. AtCall (Applies op f g))))) fault n
RefusedFrom at (made_of op F) fs fault n =
    InTurn (RefusedFrom at F []) (Answers at F) (operators F) (FromCurve (λ f. AtCall (AppliesTo op f))) fault n
RefusedFrom at (moved F T) fs fault n =
    InTurn (RefusedFrom at F []) (Answers at F) (operators F)
    (FromCurve (λ f. InTurn (RefusedFrom at T []) (Answers at T) (operators T) (FromNumber (λ x. AtCall (AppliesTo (Shift x) f))))) fault n
RefusedFrom at (cut F server bits rate) fs fault n =
    InTurn (RefusedFrom at F []) (Answers at F) (operators F)
    (FromCurve (λ f. InTurn AtNone (MakesCurve (IsAgain (bucket (whole bits) rate))) 0 (FromCurve (λ g. AtCall (Applies Min f g))))) fault n
RefusedFrom at (part F G) fs fault n =
    InTurn (RefusedFrom at F []) (Answers at F) (operators F) (FromCurve (λ f. RefusedFrom at G (fs ++ f ∷ []))) fault n
RefusedFrom at no_part fs fault n = SumsRefused fs fault n
RefusedFrom at (leftover F G T) fs fault n =
    InTurn (RefusedFrom at F []) (Answers at F) (operators F)
    (FromCurve (λ f. InTurn (RefusedFrom at G []) (Answers at G) (operators G)
    (FromCurve (λ g. InTurn (RefusedFrom at T []) (Answers at T) (operators T)
    (FromNumber (λ x. AtCall (Applies (FifoLeft x) f g))))))) fault n
RefusedFrom at (priority f F lower) fs fault n =
    InTurn (RefusedFrom at F []) (Answers at F) (operators F) (FromCurve (λ g. PriorityRefused f g lower)) fault n
RefusedFrom at (deficit f quanta longest queue) fs fault n = DrrRefused f quanta longest queue fault n
RefusedFrom at (horizontal F G) fs fault n =
    InTurn (RefusedFrom at F []) (Answers at F) (operators F)
    (FromCurve (λ f. InTurn (RefusedFrom at G []) (Answers at G) (operators G)
    (FromCurve (λ g. AtCall (Deviates Horizontal IsHorizontalDeviation f g))))) fault n
RefusedFrom at (vertical F G) fs fault n =
    InTurn (RefusedFrom at F []) (Answers at F) (operators F)
    (FromCurve (λ f. InTurn (RefusedFrom at G []) (Answers at G) (operators G)
    (FromCurve (λ g. AtCall (Deviates Vertical IsVerticalDeviation f g))))) fault n
RefusedFrom at (smaller F G) fs fault n =
    InTurn (RefusedFrom at F []) (Answers at F) (operators F)
    (FromNumber (λ x. InTurn (RefusedFrom at G []) (Answers at G) (operators G) (FromNumber (λ y fault n. ⊥)))) fault n
RefusedFrom at (along cells links) fs fault n = FromCells at cells (λ xs. AtCall (Sums (with_links xs links))) fault n
RefusedFrom at (delayed F links) fs fault n =
    InTurn (RefusedFrom at F []) (Answers at F) (operators F)
    (FromNumber (λ x. AtCall (Sums (with_links (x ∷ []) links)))) fault n

abbrev pub RefusedAt : CellTable → Formula → OpFault → ℕ → Type 0
RefusedAt at F fault n = RefusedFrom at F [] fault n

-- ---- a cell
-- what making the value of a cell is refused for, when n operators are counted: want of memory with none counted, as where
-- another cell's value is shared, or as above
abbrev pub Stops : CellTable → Formula → OpFault → ℕ → Type 0
Stops at F fault n = AtNone fault n ⊎ RefusedAt at F fault n
