-- What holds of the cells that an edit leaves untouched. Own choice.
use Rattle.std.specs.Prelude.{◌≡◌, ◌⊎◌, ℕ, List, IsTrue, Contains}
use Rattle.upp_limits.specs.declared.op_kind.OpFault.{OpFault}
use Rattle.net_model.specs.Networks.{Net}
use Rattle.net_model.specs.Accepted.{IsAccepted}
use Rattle.net_model.specs.Orders.{IsOrder}
use Rattle.net_cells.specs.declared.cell.Cell.{Cell}
use Rattle.net_cells.specs.Cells.{has_cell}
use Rattle.net_cells.specs.Meanings.{CellTable}
use Rattle.net_cells.specs.Equations.{MeetsEquations, MeetsEquation}
use Rattle.net_cells.specs.FirstOver.{IsAnswered, AnswersAll, FirstOver}
use Rattle.cell_rules.specs.cell_changes.Changes.{Touched, Untouched, TouchedOf}

-- no cell is both
abbrev pub NoneIsBoth : Type 0
NoneIsBoth = (old new : Net) (c : Cell) → Touched old new c → ¬ (Untouched old new c)

-- two tables have the same values at the untouched cells
abbrev pub AgreeAtUntouched : Net → Net → CellTable → CellTable → Type 0
AgreeAtUntouched old new at other = (c : Cell) → Untouched old new c → other c ≡ at c

-- the value of an untouched cell stays: by any table of the old network and any of the new one
abbrev pub UntouchedStay : Type 0
UntouchedStay =
    (old new : Net) (at other : CellTable) → MeetsEquations old at → MeetsEquations new other
    → AgreeAtUntouched old new at other

-- what a table answers of the old network at an untouched cell, one that agrees with it there answers of the new one
pub record UntouchedCarryOver : Type 0 where
  pub meets : (old new : Net) (at other : CellTable) (c : Cell) → AgreeAtUntouched old new at other
      → Untouched old new c → MeetsEquation old at c → MeetsEquation new other c
  pub answered : (old new : Net) (at other : CellTable) (c : Cell) → AgreeAtUntouched old new at other
      → Untouched old new c → IsAnswered old at c → IsAnswered new other c

-- so where the touched cells of some are answered, all of them are
abbrev pub TouchedAnswersSuffice : Type 0
TouchedAnswersSuffice =
    (old new : Net) (at other : CellTable) (cells : List Cell)
    → ((c : Cell) → IsTrue (has_cell old c) → IsAnswered old at c)
    → AgreeAtUntouched old new at other
    → ((c : Cell) → Contains cells c → Touched old new c ⊎ Untouched old new c)
    → ((c : Cell) → Contains cells c → Touched old new c → IsAnswered new other c) → AnswersAll new other cells

-- the first cell over a limit is a touched one, where the old network has a table
abbrev pub FirstOverIsTouched : Type 0
FirstOverIsTouched =
    (old new : Net) (order : List ℕ) (at : CellTable) (c : Cell) (fault : OpFault) → IsAccepted new → IsOrder new order
    → ((d : Cell) → IsTrue (has_cell old d) → IsAnswered old at d) → FirstOver new order c fault
    → ¬ (Untouched old new c)

-- some cells have one list of touched ones
abbrev pub OneTouchedList : Type 0
OneTouchedList =
    (old new : Net) (cells touched others : List Cell) → TouchedOf old new cells touched
    → TouchedOf old new cells others
    → touched ≡ others
