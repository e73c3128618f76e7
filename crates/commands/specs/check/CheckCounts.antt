-- How many steps an answer on a network and a recorded run takes: an operator on curves takes one, and the run none.
use Rattle.std.specs.Prelude.{ℕ, List}
use Rattle.net_model.specs.Networks.{Net}
use Rattle.run_check.specs.run_table.Runs.{IsFirstFault}
use Rattle.commands.specs.FileCounts.{CountsOnRows}

-- by a network and a file
abbrev pub CountsOnNet : Net → (run_bytes : List ℕ) → (status old new : ℕ) → Type 0
CountsOnNet net run_bytes status old new =
    CountsOnRows (λ kind row. IsFirstFault net run_bytes kind row) net status old new
