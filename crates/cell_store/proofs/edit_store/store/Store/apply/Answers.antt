use Rattle.std.proofs.Common.{refl, sym, ◌∙◌}
use Rattle.std.proofs.lemmas.Result.{err_from_is_err_and}
use Rattle.outcomes.proofs.Spending.{spends_answer, spends_refusal, spends_nothing, spends_stopped}
use Rattle.net_edits.specs.declared.fault.EditFault.TheVariants.{NothingToUndo}
use Rattle.cell_store.proofs.edit_store.Outcomes.{undo_work}
use Rattle.cell_store.proofs.edit_store.store.Store.apply.Goals as goal

-- ---- an undo counts nothing
pub returns-in-Some-clause-spends : goal.returns-in-Some-clause-spends
returns-in-Some-clause-spends g c =
    spends_nothing (λ n work. undo_work c.args.self.now.present c.args.edit.now n c.in-Undo.is work)

pub returns-in-None-clause-spends : goal.returns-in-None-clause-spends
returns-in-None-clause-spends g c = spends_stopped _ NothingToUndo refl (λ lack. absurd (let bad : ⊥ = cc in bad))

-- ---- another edit counts what its step counts
pub returns-in_ok-cells-in_default-clause-spends : goal.returns-in_ok-cells-in_default-clause-spends
returns-in_ok-cells-in_default-clause-spends g c = spends_answer c.in_ok-cells-in_default.ensures.spends (λ n is. is)

pub returns-in_err-cells-in_default-clause-spends : goal.returns-in_err-cells-in_default-clause-spends
returns-in_err-cells-in_default-clause-spends g c =
    let p = err_from_is_err_and c.from_residual.result c.from_residual.ensures.1 in
    spends_refusal c.in_err-cells-in_default.ensures.spends c.from_residual.result p.0 p.1 (λ n is. is) (λ told. sym p.2 ∙ told)
    (λ n ends. ends)
