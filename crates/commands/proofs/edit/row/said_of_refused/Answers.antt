use Rattle.std.proofs.Common.{ap, ◌∙◌}
use Rattle.std.specs.Prelude.{Result}
use Rattle.std.proofs.lemmas.Result.{IfOk-weaker}
use Rattle.net_model.specs.declared.edit.Done.{Done}
use Rattle.net_edits.specs.declared.fault.EditFault.{EditFault}
use Rattle.commands.specs.edit_report.Said.{said_of}
use Rattle.commands.proofs.edit.Naming.{cause_of_rule, not_of_edited}
use Rattle.commands.proofs.edit.row.said_of_refused.Goals as goal

pub returns-in_default : goal.returns-in_default
returns-in_default c =
    let net = c.network.result.now in
    let fault = c.args.fault.now in
    let d = c.in_default in
    IfOk-weaker c.said_of.result _ _
    (λ said says. record {
      named_by = net;
      cause = cause_of_rule c.args.store.now c.args.edit.now fault net c.requires.refused d.not-NoMemory
          (not_of_edited fault d.not-Cycle d.not-TooMany d.not-TooWide);
      says = says ∙ ap (λ (r : Result Done EditFault). said_of net r) c.requires.same;
    })
    c.said_of.ensures
