-- A sum of cells' curves that is being made. Own choice.
use Rattle.std.specs.Prelude.{◌≡◌, ℕ, ◌+◌, ◌-◌, ◌≤◌, List, [], ◌∷◌, ◌++◌, length, Result, Ok, Err}
use Rattle.upp_limits.specs.declared.op_kind.OpFault.{OpFault}
use Rattle.upp_limits.specs.declared.op_kind.OpFault.TheVariants.{NoMemory}
use Rattle.upp_curve.specs.Curve.{SpecCurve}
use Rattle.net_cells.specs.declared.cell.Cell.{Cell}
use Rattle.net_cells.specs.Meanings.{curve, CellTable}
use Rattle.net_cells.specs.CellFormulas.{sum_of_cells}
use Rattle.net_cells.specs.Answers.{Answers}
use Rattle.net_cells.specs.Refusals.{RefusedAt}
use Rattle.cell_eval.specs.declared.curve_sums.Partial.{Partial}
use Rattle.cell_eval.specs.declared.curve_sums.Partial.TheVariants.{Nothing, One, Made}
use Rattle.cell_eval.specs.declared.curve_sums.Added.{Added}
use Rattle.cell_eval.specs.declared.curve_sums.Added.TheVariants.{Lines, Whole}
use Rattle.cell_eval.specs.declared.curve_sums.Growing.{Growing}
use Rattle.cell_eval.specs.declared.curve_sums.Growing.TheVariants.{Empty, Single, More}
use Rattle.plain_operators.specs.pointwise.Straight.{straight_curve}
use Rattle.cell_numbers.specs.TableValues.{IsCurveAt}

-- f is the sum of two cells or more; to hand it on there might be no memory
pub record IsSumOf (at : CellTable) (cells : List Cell) (f : SpecCurve) : Type 0 where
  pub some : 2 ≤ length cells
  pub answers : Answers at (sum_of_cells cells) (Ok (curve f))
  pub lacks : RefusedAt at (sum_of_cells cells) NoMemory (length cells - 1)

-- the sum of these cells: nothing of none, the cell itself of one
abbrev pub IsPartial : CellTable → List Cell → Partial → Type 0
IsPartial at cells Nothing = cells ≡ []
IsPartial at cells (One c) = cells ≡ c ∷ []
IsPartial at cells (Made f) = IsSumOf at cells f

-- one cell has a curve
abbrev pub IsReady : CellTable → Partial → Type 0
IsReady at Nothing = Unit {0}
IsReady at (One c) = IsCurveAt at c
IsReady at (Made f) = Unit {0}

-- whatever cells come after these, the sum is refused, with n of its operators counted
abbrev pub Fails : CellTable → List Cell → OpFault → ℕ → Type 0
Fails at cells fault n = (rest : List Cell) → RefusedAt at (sum_of_cells (cells ++ rest)) fault n

-- more cells are added to the sum of some, and the sum of all is refused
pub record FailsAt (at : CellTable) (cells more : List Cell) (old new : ℕ) (fault : OpFault) : Type 0 where
  pub counted : ℕ
  pub fails : Fails at (cells ++ more) fault counted
  pub count : new + (length cells - 1) ≡ old + counted

-- more cells added to the sum of some: each takes one operator but for the first of all; a refusal may come sooner
abbrev pub Adds : CellTable → (cells more : List Cell) → (old new : ℕ) → Result Partial OpFault → Type 0
Adds at cells more old new (Ok p) =
    IsPartial at (cells ++ more) p × (new + (length cells - 1) ≡ old + (length (cells ++ more) - 1))
Adds at cells more old new (Err fault) =
    FailsAt at cells more old new fault × (old ≤ new) × (new + (length cells - 1) ≤ old + (length (cells ++ more) - 1))

-- f is the sum of these cells, which are not none
pub record IsSummed (at : CellTable) (cells : List Cell) (f : SpecCurve) : Type 0 where
  pub some : 1 ≤ length cells
  pub answers : Answers at (sum_of_cells cells) (Ok (curve f))

-- ---- sums that grow in place
-- of lines the numbers of the sum stand for its curve
abbrev pub added_curve : Added → SpecCurve
added_curve (Lines s) = straight_curve s
added_curve (Whole f) = f

abbrev pub partial_of : Growing → Partial
partial_of Empty = Nothing
partial_of (Single c) = One c
partial_of (More a) = Made (added_curve a)

-- what was made is the sum of two cells or more
abbrev pub sum_made : Result SpecCurve OpFault → Result Partial OpFault
sum_made (Ok f) = Ok (Made f)
sum_made (Err fault) = Err fault

abbrev pub added_made : Result Added OpFault → Result Partial OpFault
added_made (Ok a) = Ok (Made (added_curve a))
added_made (Err fault) = Err fault

-- what is answered, with the sum as it is then
abbrev pub in_place : {U : Type 0} → Partial → Result U OpFault → Result Partial OpFault
in_place p (Ok u) = Ok p
in_place p (Err fault) = Err fault
