-- The reply on a fault of a recorded run.
use Rattle.std.proofs.Common.{◌≡◌, ◌≢◌, List, ℕ, Result, Ok, Err, IfOk, inl, inr, ap}
use Rattle.std.specs.Prelude.{◌⊎◌}
use Rattle.net_model.specs.Networks.{Net}
use Rattle.run_check.specs.declared.run_table.fault.RunFault.{RunFault}
use Rattle.run_check.specs.declared.run_table.fault.RunKind.TheVariants.{NoMemory}
use Rattle.run_check.specs.run_table.Runs.{IsFirstFault, out_of_memory}
use Rattle.replies.specs.declared.answer.Answer.{Answer}
use Rattle.command_replies.specs.View.{reply_of}
use Rattle.commands.specs.check.Checked.{run_fault_reply}
use Rattle.commands.specs.check.OnRuns.{IsBadRunOf}

-- a call that answers on a fault of a run, if anything, answers on the first
pub on_told : {E : Type 0} (net : Net) (run_file run_bytes : List ℕ) (fault : RunFault) (r : Result Answer E)
    → (fault ≡ out_of_memory) ⊎ IsFirstFault net run_bytes fault.kind fault.row
    → IfOk r (λ a. reply_of a ≡ run_fault_reply run_file fault) → IfOk r (λ a. fault.kind ≢ NoMemory)
    → IfOk r (λ a. IsBadRunOf net run_file run_bytes (reply_of a))
on_told net run_file run_bytes fault (Ok a) (inl none) is told = absurd (told (ap (λ (f : RunFault). f.kind) none))
on_told net run_file run_bytes fault (Ok a) (inr first) is told = record { fault = fault; first = first; is = is }
on_told net run_file run_bytes fault (Err e) found is told = tt
