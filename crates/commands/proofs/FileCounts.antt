-- The steps of an answer on a network's file.
use Rattle.std.proofs.Common.{◌≤◌, ℕ, List, Result, Ok, refl, subst}
use Rattle.net_model.specs.Networks.{Net}
use Rattle.net_text.specs.Reading.{IsNetworkOf}
use Rattle.command_replies.specs.run_findings.Statuses.{IsOfReport}
use Rattle.net_text.proofs.OneThing.{each_file_says_one_thing}
use Rattle.command_replies.proofs.run_findings.Counted.{none_on_cells}
use Rattle.commands.specs.FileCounts.{CountsInReading, IsTold, CountsOnFolds, CountsOnFile, CountsOnRows}

-- those of the folds, where the network is made
pub folds_made : {A E : Type 0} (bytes : List ℕ) (status old new : ℕ) {made : A} → CountsInReading {E = E} bytes old new (Ok made)
    → CountsOnFolds bytes status old new
folds_made bytes status old new h = record {
  rises = h.rises;
  most = λ total work. (h.folds total work).most;
  all = λ told net total reads work. (h.folds total work).exact;
}

-- and where it is not, and an answer is told only of a file that gives none
pub folds_without : {A E : Type 0} (bytes : List ℕ) (status old new : ℕ) {r : Result A E} → CountsInReading bytes old new r
    → (IsTold status → (net : Net) → ¬ (IsNetworkOf bytes net)) → CountsOnFolds bytes status old new
folds_without bytes status old new h none = record {
  rises = h.rises;
  most = λ total work. (h.folds total work).most;
  all = λ told net total reads work. absurd (none told net reads);
}

-- those of a file that gives a network
pub of_network : (OnNet : Net → (status old new : ℕ) → Type 0) (bytes : List ℕ) (net : Net) (status old between new : ℕ)
    → IsNetworkOf bytes net → CountsOnFolds bytes status old between
    → OnNet net status between new → CountsOnFile OnNet bytes status old new
of_network OnNet bytes net status old between new reads folds counts = record {
  between = between;
  folds = folds;
  refused = λ fault first. absurd ((each_file_says_one_thing bytes).not_both net fault reads first);
  on_net = λ other is.
      subst (λ (n : Net). OnNet n status between new) ((each_file_says_one_thing bytes).one_network net other reads is) counts;
}

-- those of a file that gives none
pub of_none : (OnNet : Net → (status old new : ℕ) → Type 0) (bytes : List ℕ) (status old new : ℕ)
    → CountsOnFolds bytes status old new → ((net : Net) → OnNet net status new new)
    → CountsOnFile OnNet bytes status old new
of_none OnNet bytes status old new folds none =
    record { between = new; folds = folds; refused = λ fault first. refl; on_net = λ net is. none net }

-- by rows of which none is read
pub none_on_rows : {K : Type 0} (IsFault : K → ℕ → Type 0) (net : Net) (status count : ℕ) → ¬ IsOfReport status
    → CountsOnRows IsFault net status count count
none_on_rows IsFault net status count other =
    record { cells = none_on_cells net status count other; refused = λ kind row first. refl }
