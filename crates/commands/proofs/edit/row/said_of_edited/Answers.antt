use Rattle.std.proofs.Common.{ap, ◌∙◌}
use Rattle.std.specs.Prelude.{Result}
use Rattle.std.proofs.lemmas.Result.{IfOk-weaker}
use Rattle.net_model.specs.declared.edit.Done.{Done}
use Rattle.net_edits.specs.declared.fault.EditFault.{EditFault}
use Rattle.commands.specs.edit_report.Said.{said_of}
use Rattle.commands.proofs.edit.Naming.{breaks_no_rule, cause_of_edited}
use Rattle.commands.proofs.edit.row.said_of_edited.Goals as goal

pub shown-requires : goal.shown-requires
shown-requires c =
    breaks_no_rule c.args.store.now c.args.edit.now c.args.fault.now c.requires.refused c.requires.late

pub returns : goal.returns
returns c =
    let net = c.in_ok-net.net in
    IfOk-weaker c.said_of.result _ _
    (λ said says. record {
      named_by = net;
      cause = cause_of_edited c.args.store.now c.args.edit.now c.args.fault.now net c.requires.refused c.requires.late
          c.in_ok-net.ensures c.keeps.ensures;
      says = says ∙ ap (λ (r : Result Done EditFault). said_of net r) c.requires.same;
    })
    c.said_of.ensures
