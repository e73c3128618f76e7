use Rattle.std.proofs.Common.{[], ◌∷◌}
use Rattle.replies.specs.Ended.{asks_of}
use Rattle.replies.proofs.Fetches.{first_ends, stops_at_first}
use Rattle.netcalc_cli.specs.Commands.{Curve}
use Rattle.netcalc_cli.specs.Files.{most_bytes}
use Rattle.netcalc_cli.proofs.Replies.{on_files, on_end}
use Rattle.netcalc_cli.proofs.answering.on_curves.Goals as goal

pub returns-in-Ok : goal.returns-in-Ok
returns-in-Ok g c =
    on_files g.I.Inputs.content g.I.Inputs.faults g.I.Inputs.last_fault g.I.Inputs.asked g.I.Inputs.had
    (Curve c.args.script.now) c.args.inputs.now c.fetch_one.new.inputs c.answer_on.result c.args.steps.now c.answer_on.new.steps
    (c.in-Ok.bytes.items ∷ []) (c.in-Ok.ensures.held, tt) (c.in-Ok.ensures.fits, tt) c.in-Ok.ensures.all
    (rw c.deref.ensures.value at c.answer_on.ensures.reply) (rw c.deref.ensures.value at c.answer_on.ensures.counts)

pub returns-in-Err : goal.returns-in-Err
returns-in-Err g c =
    on_end g.I.Inputs.content g.I.Inputs.faults g.I.Inputs.last_fault g.I.Inputs.asked g.I.Inputs.had
    (Curve c.args.script.now) c.args.inputs.now c.fetch_one.new.inputs c.in-Err.unread
    c.unread_answer.result c.args.steps.now
    (stops_at_first g.I.Inputs.asked g.I.Inputs.had c.args.script.now [] c.args.inputs.now c.fetch_one.new.inputs
    c.fetch_one.ensures.asked c.in-Err.ensures.not_had)
    (first_ends most_bytes g.I.Inputs.faults g.I.Inputs.last_fault (g.I.Inputs.content c.args.inputs.now)
    (asks_of g.I.Inputs.asked c.args.inputs.now c.fetch_one.new.inputs) c.args.inputs.now c.fetch_one.new.inputs c.args.script.now []
    c.in-Err.unread c.fetch_one.ensures.asked c.in-Err.ensures.ended)
    c.unread_answer.ensures
