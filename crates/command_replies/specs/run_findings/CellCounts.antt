-- How many steps an answer on a network takes that looks at a run, too: an operator on curves takes one, and the run
-- none.
use Rattle.std.specs.Prelude.{◌≡◌, ◌+◌, ◌≤◌, ℕ, List}
use Rattle.net_model.specs.Networks.{Net}
use Rattle.net_model.specs.Orders.{IsOrder}
use Rattle.net_model.specs.Walks.{IsCycle}
use Rattle.command_replies.specs.CellWork.{work_of_cells}
use Rattle.command_replies.specs.run_findings.Statuses.{IsOfReport}

-- no more than the work of all cells, and exactly that where the answer is a report; none by a cycle
pub record CountsOnCells (net : Net) (status old new : ℕ) : Type 0 where
  pub rises : old ≤ new
  pub most : (order : List ℕ) → IsOrder net order → new ≤ old + work_of_cells net order
  pub report : IsOfReport status → (order : List ℕ) → IsOrder net order → new ≡ old + work_of_cells net order
  pub round : (walk : List ℕ) → IsCycle net walk → new ≡ old
