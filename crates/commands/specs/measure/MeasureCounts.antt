-- How many steps an answer on a trace takes: an operator on curves takes one.
use Rattle.std.specs.Prelude.{ℕ, zero, suc, List, Result, Ok, Err}
use Rattle.outcomes.specs.Spending.{Counts}
use Rattle.commands.specs.FileCounts.{CountsOnFolds}

-- the status of a report, or that of none
abbrev pub by_status : (status : ℕ) → Result (Unit {0}) ℕ
by_status zero = Ok tt
by_status (suc n) = Err (suc n)

-- by a network and a trace: one for the burst where there is a report, and no more where there is none
abbrev pub CountsOnTrace : (status old new : ℕ) → Type 0
CountsOnTrace status old new = Counts 1 old new (by_status status)

-- before it those of the folds of the file's closures
pub record CountsOn (bytes : List ℕ) (status old new : ℕ) : Type 0 where
  pub between : ℕ
  pub folds : CountsOnFolds bytes status old between
  pub burst : CountsOnTrace status between new
