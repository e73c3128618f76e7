-- What a call answers on a network's file, and by how many steps: what it says of the network, or that there is none.
use Rattle.std.proofs.Common.{ℕ, List, Result, Ok, Err, IfOk, inl, inr, refl}
use Rattle.std.proofs.lemmas.Result.{IfOk-weaker}
use Rattle.upp_limits.specs.declared.own_limits.OverLimit.TheVariants.{TooMany, TooWide}
use Rattle.net_model.specs.Networks.{Net}
use Rattle.net_text.specs.Reading.{IsNetworkOf}
use Rattle.command_replies.specs.OnFiles.{IsNoNetwork, IsNetOf, OnFile}
use Rattle.command_replies.specs.Replies.{Reply}
use Rattle.outcomes.specs.Stages.{stops, goes_on}
use Rattle.replies.specs.declared.answer.Answer.{Answer}
use Rattle.command_replies.specs.View.{reply_of, status_of}
use Rattle.command_replies.specs.run_findings.Statuses.{IsOfReport}
use Rattle.command_replies.proofs.OneRefusal.{on_fault, no_network}
use Rattle.command_replies.proofs.Statuses.{status_is}
use Rattle.commands.specs.FileCounts.{CountsInReading, IsTold, CountsOnFile}
use Rattle.commands.proofs.FileCounts.{folds_made, folds_without, of_network, of_none}
use Rattle.commands.proofs.Stopped.{not_at, none_of}

-- ---- of the network
pub said_of_network : {E : Type 0} (file bytes : List ℕ) (net : Net) (Said : Net → Reply → Type 0) (r : Result Answer E)
    → IsNetOf bytes net → IfOk r (λ a. Said net (reply_of a)) → IfOk r (λ a. OnFile file bytes Said (reply_of a))
said_of_network file bytes net Said r of said = IfOk-weaker r _ _ (λ a on. goes_on net of on) said

-- ---- that there is none
pub said_of_none : {E : Type 0} (file bytes : List ℕ) (Said : Net → Reply → Type 0) (r : Result Answer E)
    → IfOk r (λ a. IsNoNetwork file bytes (reply_of a)) → IfOk r (λ a. OnFile file bytes Said (reply_of a))
said_of_none file bytes Said r none = IfOk-weaker r _ _ (λ a no. stops no) none

-- it is no report
is_none : (file bytes : List ℕ) (reply : Reply) → IsNoNetwork file bytes reply → ¬ IsOfReport reply.status
is_none file bytes reply (inl h) = not_at reply.status 1 (status_is reply _ h.is) (λ e. cc) (λ e. cc)
is_none file bytes reply (inr (TooMany, h)) = not_at reply.status 7 (status_is reply _ h.is) (λ e. cc) (λ e. cc)
is_none file bytes reply (inr (TooWide, h)) = not_at reply.status 6 (status_is reply _ h.is) (λ e. cc) (λ e. cc)

pub none_told : {E : Type 0} (file bytes : List ℕ) (r : Result Answer E)
    → IfOk r (λ a. IsNoNetwork file bytes (reply_of a)) → ¬ IsOfReport (status_of r)
none_told file bytes r none = none_of (IsNoNetwork file bytes) (is_none file bytes) r none

-- and where it is told, the file gives no network
pub no_net : {E : Type 0} (file bytes : List ℕ) (r : Result Answer E)
    → IfOk r (λ a. IsNoNetwork file bytes (reply_of a)) → IsTold (status_of r) → (net : Net) → ¬ (IsNetworkOf bytes net)
no_net file bytes (Ok a) none told net reads =
    no_network file bytes (reply_of a) net (on_fault file bytes (reply_of a) none) reads
no_net file bytes (Err e) none told net reads = absurd (told.1 refl)

-- ---- an answer with its steps
-- `OnNet` says which steps the network takes
pub record IsAnsweredOn {E : Type 0} (file bytes : List ℕ) (Said : Net → Reply → Type 0)
    (OnNet : Net → (status old new : ℕ) → Type 0) (r : Result Answer E) (old new : ℕ) : Type 0 where
  pub reply : IfOk r (λ a. OnFile file bytes Said (reply_of a))
  pub counts : CountsOnFile OnNet bytes (status_of r) old new

pub by_network : {A E F : Type 0} (file bytes : List ℕ) (Said : Net → Reply → Type 0)
    (OnNet : Net → (status old new : ℕ) → Type 0) (net : Net) (r : Result Answer E) (old between new : ℕ)
    → IsNetOf bytes net → {made : A} → CountsInReading {E = F} bytes old between (Ok made) → IfOk r (λ a. Said net (reply_of a))
    → OnNet net (status_of r) between new → IsAnsweredOn file bytes Said OnNet r old new
by_network file bytes Said OnNet net r old between new of read said counts = record {
  reply = said_of_network file bytes net Said r of said;
  counts = of_network OnNet bytes net (status_of r) old between new of.reads
      (folds_made bytes (status_of r) old between read) counts;
}

-- where a network takes none for what is no report
pub by_none : {A E F : Type 0} (file bytes : List ℕ) (Said : Net → Reply → Type 0)
    (OnNet : Net → (status old new : ℕ) → Type 0) (r : Result Answer E) (old new : ℕ)
    → IfOk r (λ a. IsNoNetwork file bytes (reply_of a)) → {read : Result A F} → CountsInReading bytes old new read
    → ((net : Net) (status : ℕ) → ¬ IsOfReport status → OnNet net status new new)
    → IsAnsweredOn file bytes Said OnNet r old new
by_none file bytes Said OnNet r old new none folds counts = record {
  reply = said_of_none file bytes Said r none;
  counts = of_none OnNet bytes (status_of r) old new
      (folds_without bytes (status_of r) old new folds (no_net file bytes r none))
      (λ net. counts net (status_of r) (none_told file bytes r none));
}
