-- How many operators on curves the cells of a network take.
use Rattle.std.specs.Prelude.{ℕ, List, sum_by}
use Rattle.net_model.specs.Networks.{Net}
use Rattle.net_cells.specs.Order.{evaluation_order}
use Rattle.net_cells.specs.Work.{work}

-- the operators of all cells
abbrev pub work_of_cells : Net → List ℕ → ℕ
work_of_cells net order = sum_by (work net) (evaluation_order net order)
