use Rattle.std.proofs.Common.{ap, ◌∙◌}
use Rattle.std.proofs.lemmas.Result.{IfOk-weaker}
use Rattle.net_model.specs.Networks.{Net}
use Rattle.commands.specs.edit_report.Said.{said_view, said_of}
use Rattle.commands.proofs.edit.OneRow.{said_of_done, said_of_fault}
use Rattle.commands.proofs.edit.row.said_by.Goals as goal

pub returns-in-Ok : goal.returns-in-Ok
returns-in-Ok c =
    IfOk-weaker c.said_of.result _ _
    (λ said says. said_of_done c.args.store.now c.args.edit.now c.args.answer.now _ (said_view said) c.in-Ok.is
    (says ∙ ap (λ (n : Net). said_of n c.args.answer.now) c.network.ensures.network))
    c.said_of.ensures

pub returns-in-Err : goal.returns-in-Err
returns-in-Err c =
    IfOk-weaker c.said_of_refused.result _ _
    (λ said is. said_of_fault c.args.store.now c.args.edit.now c.args.answer.now _ (said_view said) c.in-Err.is is)
    c.said_of_refused.ensures
