use Rattle.std.proofs.Common.{◌∷◌, []}
use Rattle.std.proofs.lemmas.Result.{IfOk-weaker}
use Rattle.bounds_command.specs.Replies.{cannot_read, too_long}
use Rattle.bounds_command.specs.View.{reply_of}
use Rattle.replies.proofs.Ends.{told_in}
use Rattle.netbound_cli.specs.Calls.{bounds_call, files_of}
use Rattle.netbound_cli.specs.Files.{most_bytes}
use Rattle.netbound_cli.specs.Reply.{asks_of}
use Rattle.netbound_cli.proofs.Outcomes.{answers, ends, not_at_file}
use Rattle.netbound_cli.proofs.top_call.answer_to.Goals as goal

pub returns-in-Ok-clause-reply : goal.returns-in-Ok-clause-reply
returns-in-Ok-clause-reply g c =
    IfOk-weaker c.on_tables.result _ _
    (λ r on. answers g.I.Inputs.faults g.I.Inputs.last_fault (g.I.Inputs.content c.args.inputs.now)
    (asks_of g.I.Inputs.asked c.args.inputs.now c.fetch_two.new.inputs) (bounds_call c.args.asked)
    c.args.inputs.now c.fetch_two.new.inputs (reply_of r) (c.in-Ok.ports.items ∷ c.in-Ok.links.items ∷ [])
    c.in-Ok.ensures.held c.in-Ok.ensures.fit
    (rw (c.deref.ensures.value, c.deref-in-Ok.ensures.value, c.form_of-form.ensures) at on)
    c.in-Ok.ensures.all.asked_for)
    c.on_tables.ensures

pub returns-in-Err-clause-reply : goal.returns-in-Err-clause-reply
returns-in-Err-clause-reply g c =
    IfOk-weaker c.unread_answer.result _ _
    (λ r is. ends g.I.Inputs.faults g.I.Inputs.last_fault (g.I.Inputs.content c.args.inputs.now)
    (asks_of g.I.Inputs.asked c.args.inputs.now c.fetch_two.new.inputs) (bounds_call c.args.asked)
    c.args.inputs.now c.fetch_two.new.inputs (reply_of r)
    (told_in most_bytes cannot_read too_long g.I.Inputs.faults g.I.Inputs.last_fault (g.I.Inputs.content c.args.inputs.now)
    (asks_of g.I.Inputs.asked c.args.inputs.now c.fetch_two.new.inputs) c.args.inputs.now c.fetch_two.new.inputs c.in-Err.unread
    (reply_of r) (files_of (bounds_call c.args.asked)) is c.in-Err.ensures.ended))
    c.unread_answer.ensures

pub returns-in-Ok-clause-all : goal.returns-in-Ok-clause-all
returns-in-Ok-clause-all g c =
    IfOk-weaker c.on_tables.result _ _ (λ r on both. c.in-Ok.ensures.all) c.on_tables.ensures

pub returns-in-Err-clause-all : goal.returns-in-Err-clause-all
returns-in-Err-clause-all g c =
    IfOk-weaker c.unread_answer.result _ _
    (λ r is both. absurd (not_at_file g.I.Inputs.faults g.I.Inputs.last_fault (g.I.Inputs.content c.args.inputs.now)
    (asks_of g.I.Inputs.asked c.args.inputs.now c.fetch_two.new.inputs) (files_of (bounds_call c.args.asked))
    c.args.inputs.now c.fetch_two.new.inputs (reply_of r)
    (told_in most_bytes cannot_read too_long g.I.Inputs.faults g.I.Inputs.last_fault (g.I.Inputs.content c.args.inputs.now)
    (asks_of g.I.Inputs.asked c.args.inputs.now c.fetch_two.new.inputs) c.args.inputs.now c.fetch_two.new.inputs c.in-Err.unread
    (reply_of r) (files_of (bounds_call c.args.asked)) is c.in-Err.ensures.ended) both))
    c.unread_answer.ensures
