-- How many steps an answer on a network's file takes: an operator on curves takes one.
use Rattle.std.specs.Prelude.{◌≡◌, ◌≢◌, ◌+◌, ◌≤◌, ℕ, List, Result}
use Rattle.outcomes.specs.Spending.{Counts}
use Rattle.net_model.specs.Networks.{Net}
use Rattle.net_draft.specs.Faults.{Fault}
use Rattle.net_text.specs.Folds.{FoldsOfFile, StepsAtMost}
use Rattle.net_text.specs.Reading.{IsNetworkOf, FirstFault}
use Rattle.command_replies.specs.run_findings.CellCounts.{CountsOnCells}

-- reading takes those of the folds of the file's closures
pub record CountsInReading {A E : Type 0} (bytes : List ℕ) (old new : ℕ) (r : Result A E) : Type 0 where
  pub rises : old ≤ new
  pub folds : (total : ℕ) → FoldsOfFile bytes total → Counts total old new r

-- the status of an answer that is told: not that of one that cannot be written, nor that of want of memory
abbrev pub IsTold : ℕ → Type 0
IsTold status = (status ≢ 4) × (status ≢ 5)

-- no more than the operators of the folds of the file's closures, and exactly those where the file gives a network and an
-- answer is told
pub record CountsOnFolds (bytes : List ℕ) (status old new : ℕ) : Type 0 where
  pub rises : old ≤ new
  pub most : StepsAtMost bytes old new
  pub all : IsTold status → (net : Net) (total : ℕ) → IsNetworkOf bytes net → FoldsOfFile bytes total → new ≡ old + total

-- first those of the folds, then those by the file's network, where it has one
pub record CountsOnFile (OnNet : Net → (status old new : ℕ) → Type 0) (bytes : List ℕ) (status old new : ℕ) : Type 0 where
  pub between : ℕ
  pub folds : CountsOnFolds bytes status old between
  pub refused : (fault : Fault) → FirstFault bytes fault → new ≡ between
  pub on_net : (net : Net) → IsNetworkOf bytes net → OnNet net status between new

-- by a network and the rows of a file, where the command looks at a run, which takes no step: those of the cells, and none
-- by a first fault of the rows
pub record CountsOnRows {K : Type 0} (IsFault : K → (row : ℕ) → Type 0) (net : Net) (status old new : ℕ) : Type 0 where
  pub cells : CountsOnCells net status old new
  pub refused : (kind : K) (row : ℕ) → IsFault kind row → new ≡ old
