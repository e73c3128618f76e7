-- What a report on a run shows beside its bounds.
use Rattle.std.specs.Prelude.{◌≡◌, ◌<◌, ℕ, Option, Some, IsTrue, slice_get}
use Rattle.std.specs.Option.{option_map}
use Rattle.rational.specs.Rational.{ℚ}
use Rattle.rational.specs.Extended.{◌≤ₑ◌}
use Rattle.rational.specs.declared.Extended.TheVariants.{Fin}
use Rattle.run_laws.specs.Cards.{whole}
use Rattle.net_model.specs.Networks.{Net}
use Rattle.net_cells.specs.declared.cell.Cell.{Cell}
use Rattle.net_cells.specs.declared.cell.Kind.TheVariants.{QueueBacklog, Bound}
use Rattle.net_cells.specs.Cells.{cell_of}
use Rattle.net_cells.specs.Meanings.{CellTable}
use Rattle.net_cells.specs.Numbered.{is_live, queues}
use Rattle.net_cells.specs.TableValues.{HasNumber}
use Rattle.report_text.specs.RunReport.{Found, peak_at}

-- a number is shown, and the table's number at a cell is no less; an infinite one claims nothing
pub record IsWithin (at : CellTable) (c : Cell) (shown : Option ℚ) : Type 0 where
  pub value : ℚ
  pub is : shown ≡ Some value
  pub within : HasNumber at c (λ most. Fin value ≤ₑ most)

-- each live flow's worst delay is within its bound, and each queue's peak within its backlog
pub record AreWithinBounds (net : Net) (at : CellTable) (found : Found) : Type 0 where
  pub delays : (i : ℕ) → IsTrue (is_live net i) → IsWithin at (cell_of Bound i 0) (slice_get found.worst i)
  pub backlogs : (s q : ℕ) → q < queues net s
      → IsWithin at (cell_of QueueBacklog s q) (option_map whole (peak_at found.peaks s q))
