-- Deadlines that can be printed.
use Rattle.std.specs.Prelude.{Option, Some, None}
use Rattle.table_cells.specs.declared.amount.Amount.{Amount}
use Rattle.table_cells.specs.Amounts.{IsAmount}

abbrev pub HasDeadlineInRange : Option Amount → Type 0
HasDeadlineInRange None = Unit {0}
HasDeadlineInRange (Some deadline) = IsAmount deadline
