-- The steps of one edit of a store.
use Rattle.std.proofs.Common.{◌≡◌, ℕ, ◌+◌, ◌≤◌, inl, inr, sym, ap, ◌∙◌, arith}
use Rattle.std.specs.Prelude.{Result, Ok, Err, OnErr}
use Rattle.outcomes.specs.Spending.{Counts}
use Rattle.net_model.specs.declared.edit.Done.{Done}
use Rattle.net_model.specs.declared.edit.Edit.{Edit}
use Rattle.net_edits.specs.declared.fault.EditFault.{EditFault}
use Rattle.cell_store.specs.edit_store.Stored.{Stored}
use Rattle.commands.specs.edit.NetHistories.{history_of}
use Rattle.commands.specs.edit.EditCounts.{IsTakenWork}
use Rattle.commands.proofs.edit.Exclusive.{nothing_pushed}

-- all of it where the edit is taken
pub at_least : {V : Type 0} (old new : Stored V) (edit : Edit) (before after count : ℕ) (r : Result Done EditFault) (done : ℕ)
    → OnErr r (new ≡ old) → Counts count before after r → IsTakenWork (history_of old) edit (history_of new) count done → before + done ≤ after
at_least old new edit before after count r done kept counts (inr (not_taken, zero)) = let least = counts.least in omega (arith, least, zero)
at_least old new edit before after count (Ok d) done kept counts (inl (taken, same)) = let all = counts.exact in omega (arith, all, same)
at_least {V} old new edit before after count (Err fault) done kept counts (inl (taken, same)) =
    absurd (nothing_pushed old.before old.present
    (sym (ap (λ (s : Stored V). s.before) kept) ∙ taken.1.before))
