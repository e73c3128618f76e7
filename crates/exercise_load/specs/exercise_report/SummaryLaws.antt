-- Laws of the summary.
use Rattle.std.specs.Prelude.{◌≡◌, ◌⊎◌, ℕ, List, Contains, Some, IsTrue}
use Rattle.rational.specs.Rational.{ℚ, ◌≤ℚ◌}
use Rattle.rational.specs.Extended.{Ext, ◌≤ₑ◌}
use Rattle.rational.specs.declared.Extended.TheVariants.{Fin}
use Rattle.min_plus.specs.Functions.{zero_q}
use Rattle.net_model.specs.Accepted.{IsAccepted}
use Rattle.net_model.specs.Networks.{Net}
use Rattle.net_model.specs.Orders.{IsOrder}
use Rattle.net_cells.specs.declared.cell.Kind.TheVariants.{Bound}
use Rattle.net_cells.specs.Cells.{cell_of}
use Rattle.net_cells.specs.Equations.{MeetsEquations}
use Rattle.net_cells.specs.Meanings.{number, CellTable}
use Rattle.net_cells.specs.Numbered.{is_live}
use Rattle.report_text.specs.RunReport.{Found}
use Rattle.exercise_load.specs.exercise_report.Largest.{largest_bound, largest_delay}
use Rattle.exercise_load.specs.exercise_report.Summary.{summary_of}

-- ---- the largest bound
-- the table's number at the bound of a live flow
pub record IsBoundOf (net : Net) (at : CellTable) (i : ℕ) (x : Ext) : Type 0 where
  pub live : IsTrue (is_live net i)
  pub is : at (cell_of Bound i 0) ≡ Some (number x)

pub record IsLargestBound (net : Net) (at : CellTable) (most : Ext) : Type 0 where
  pub from_zero : Fin zero_q ≤ₑ most
  pub above : (i : ℕ) (x : Ext) → IsBoundOf net at i x → x ≤ₑ most
  pub reached : (most ≡ Fin zero_q) ⊎ ((i : ℕ) × IsBoundOf net at i most)

abbrev pub LargestBoundIsOne : Type 0
LargestBoundIsOne = (net : Net) (at : CellTable) → IsLargestBound net at (largest_bound net at)

-- ---- the largest of some delays
pub record IsLargestDelay (delays : List ℚ) (most : ℚ) : Type 0 where
  pub from_zero : zero_q ≤ℚ most
  pub above : (x : ℚ) → Contains delays x → x ≤ℚ most
  pub reached : (most ≡ zero_q) ⊎ Contains delays most

abbrev pub LargestDelayIsOne : Type 0
LargestDelayIsOne = (delays : List ℚ) → IsLargestDelay delays (largest_delay delays)

-- ---- one summary
-- whatever table meets the equations of a network that has an order
abbrev pub EquationsGiveOneSummary : Type 0
EquationsGiveOneSummary =
    (seed : ℕ) (net : Net) (order : List ℕ) (at other : CellTable) (found : Found) → IsAccepted net → IsOrder net order
    → MeetsEquations net at → MeetsEquations net other → summary_of seed net at found ≡ summary_of seed net other found
