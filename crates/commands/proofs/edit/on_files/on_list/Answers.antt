use Rattle.std.proofs.Common.{map, inl, refl}
use Rattle.std.proofs.lemmas.Result.{IfOk-weaker}
use Rattle.input_texts.specs.table_text.EditRows.{edit_view}
use Rattle.command_replies.specs.Replies.{table_fault_reply}
use Rattle.outcomes.specs.Stages.{stops, goes_on}
use Rattle.command_replies.specs.View.{status_of}
use Rattle.command_replies.proofs.Statuses.{refused}
use Rattle.commands.proofs.edit.OnFiles.{few_edits, of_edits, on_bad_list}
use Rattle.commands.proofs.edit.on_files.on_list.Goals as goal

pub on_network-requires-clause-few : goal.on_network-requires-clause-few
on_network-requires-clause-few g c =
    rw c.deref.ensures.value (few_edits c.args.edits_bytes.now c.in-Ok.edits.items c.in-Ok.ensures.ok)

pub returns-in-Ok-clause-reply : goal.returns-in-Ok-clause-reply
returns-in-Ok-clause-reply g c =
    IfOk-weaker c.on_network.result _ _
    (λ r on. goes_on (map edit_view c.in-Ok.edits.items) record { are = c.in-Ok.ensures.ok } on)
    (rw c.deref.ensures.value at c.on_network.ensures.reply)

pub returns-in-Ok-clause-counts : goal.returns-in-Ok-clause-counts
returns-in-Ok-clause-counts g c =
    of_edits c.args.net.now c.args.edits_bytes.now c.in-Ok.edits.items (status_of c.on_network.result) _ _
    c.in-Ok.ensures.ok (rw c.deref.ensures.value at c.on_network.ensures.counts)

pub returns-in-Err-clause-reply : goal.returns-in-Err-clause-reply
returns-in-Err-clause-reply g c =
    IfOk-weaker c.on_table_fault.result _ _ (λ r bad. stops bad)
    (on_bad_list c.args.edits_file.now c.args.edits_bytes.now c.in-Err.fault c.on_table_fault.result
    c.in-Err.ensures.fault c.on_table_fault.ensures.reply c.on_table_fault.ensures.told)

pub returns-in-Err-clause-counts : goal.returns-in-Err-clause-counts
returns-in-Err-clause-counts g c =
    inl (
      refused c.on_table_fault.result (table_fault_reply c.args.edits_file.now c.in-Err.fault) (λ e. cc)
          c.on_table_fault.ensures.reply,
      refl,
    )
