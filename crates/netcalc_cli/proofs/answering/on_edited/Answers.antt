use Rattle.std.proofs.Common.{[], ◌∷◌}
use Rattle.netcalc_cli.specs.Commands.{Edit}
use Rattle.netcalc_cli.proofs.Replies.{on_files, on_end}
use Rattle.netcalc_cli.proofs.answering.on_edited.Goals as goal

pub returns-in-Ok : goal.returns-in-Ok
returns-in-Ok g c =
    on_files g.I.Inputs.content g.I.Inputs.faults g.I.Inputs.last_fault g.I.Inputs.asked g.I.Inputs.had
    (Edit c.args.form c.args.net.now c.args.edits.now) c.args.inputs.now c.fetch_two.new.inputs c.answer_on.result c.args.steps.now c.answer_on.new.steps
    (c.in-Ok.bytes.items ∷ c.in-Ok.rows.items ∷ []) c.in-Ok.ensures.held c.in-Ok.ensures.fit c.in-Ok.ensures.all
    (rw c.deref-in-Ok.ensures.value at (rw c.deref.ensures.value at c.answer_on.ensures.reply))
    (rw c.deref-in-Ok.ensures.value at (rw c.deref.ensures.value at c.answer_on.ensures.counts))

pub returns-in-Err : goal.returns-in-Err
returns-in-Err g c =
    on_end g.I.Inputs.content g.I.Inputs.faults g.I.Inputs.last_fault g.I.Inputs.asked g.I.Inputs.had (Edit c.args.form c.args.net.now c.args.edits.now)
    c.args.inputs.now c.fetch_two.new.inputs c.in-Err.unread
    c.unread_answer.result c.args.steps.now c.fetch_two.ensures.asked c.in-Err.ensures.ended c.unread_answer.ensures
