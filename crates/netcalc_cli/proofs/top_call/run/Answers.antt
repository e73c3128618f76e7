use Rattle.std.proofs.Common.{◌≡◌, false, true, refl, sym, ap, ◌∙◌, inl, inr}
use Rattle.std.proofs.lemmas.Bool.{cases_eq}
use Rattle.std.specs.Prelude.{is_some}
use Rattle.outside.specs.Written.{output}
use Rattle.replies.proofs.Fetches.{asks_none}
use Rattle.command_replies.specs.Replies.{usage}
use Rattle.command_replies.specs.View.{reply_of}
use Rattle.netcalc_cli.specs.Commands.{names_of}
use Rattle.netcalc_cli.specs.Reply.{commands}
use Rattle.netcalc_cli.specs.View.{command_view}
use Rattle.netcalc_cli.specs.Words.{texts, command_of}
use Rattle.netcalc_cli.proofs.NoWrite.{none_is_a_write_fault, none_is_usage_or_memory}
use Rattle.netcalc_cli.proofs.Replies.{not_for_usage, not_for_memory, stands_given, brought, told_given, answers_what_it_can, counts_at}
use Rattle.netcalc_cli.proofs.Replies.{nothing_counted, nothing_told, nothing_answered}
use Rattle.netcalc_cli.proofs.top_call.run.Goals as goal

pub give-requires-in-Ok-answer_to : goal.give-requires-in-Ok-answer_to
give-requires-in-Ok-answer_to g c =
    none_is_a_write_fault g.I.Inputs.faults g.I.Inputs.last_fault (g.I.Inputs.content c.args.inputs.now)
    (command_view c.in-Ok.command) c.args.inputs.now c.answer_to.new.inputs (reply_of c.in-Ok-answer_to.answer)
    c.in-Ok-answer_to.ensures.reply

pub returns-in-Ok-answer_to-clause-read_fault : goal.returns-in-Ok-answer_to-clause-read_fault
returns-in-Ok-answer_to-clause-read_fault g c is =
    let given = c.give-in-Ok-answer_to.ensures.given (λ four. cc) in
    let all = brought g.I.Inputs.faults g.I.Inputs.last_fault (g.I.Inputs.content c.args.inputs.now)
    (command_view c.in-Ok.command) c.args.inputs.now c.answer_to.new.inputs (reply_of c.in-Ok-answer_to.answer)
    c.give-in-Ok-answer_to.result (output g.K.Sink.written g.K.Sink.puts c.args.out.now) (output g.K.Sink.written g.K.Sink.puts c.give-in-Ok-answer_to.new.out)
    c.in-Ok-answer_to.ensures.reply (given.0, rw c.deref.ensures.value at given.1) in
    rw (← c.in-Ok.ensures.command) (all.read_fault is)

pub returns-in-Ok-answer_to-clause-malformed : goal.returns-in-Ok-answer_to-clause-malformed
returns-in-Ok-answer_to-clause-malformed g c is =
    let given = c.give-in-Ok-answer_to.ensures.given (λ four. cc) in
    let all = brought g.I.Inputs.faults g.I.Inputs.last_fault (g.I.Inputs.content c.args.inputs.now)
    (command_view c.in-Ok.command) c.args.inputs.now c.answer_to.new.inputs (reply_of c.in-Ok-answer_to.answer)
    c.give-in-Ok-answer_to.result (output g.K.Sink.written g.K.Sink.puts c.args.out.now) (output g.K.Sink.written g.K.Sink.puts c.give-in-Ok-answer_to.new.out)
    c.in-Ok-answer_to.ensures.reply (given.0, rw c.deref.ensures.value at given.1) in
    rw (← c.in-Ok.ensures.command) (all.malformed is)

pub returns-in-Ok-answer_to-clause-too_many : goal.returns-in-Ok-answer_to-clause-too_many
returns-in-Ok-answer_to-clause-too_many g c is =
    let given = c.give-in-Ok-answer_to.ensures.given (λ four. cc) in
    let all = brought g.I.Inputs.faults g.I.Inputs.last_fault (g.I.Inputs.content c.args.inputs.now)
    (command_view c.in-Ok.command) c.args.inputs.now c.answer_to.new.inputs (reply_of c.in-Ok-answer_to.answer)
    c.give-in-Ok-answer_to.result (output g.K.Sink.written g.K.Sink.puts c.args.out.now) (output g.K.Sink.written g.K.Sink.puts c.give-in-Ok-answer_to.new.out)
    c.in-Ok-answer_to.ensures.reply (given.0, rw c.deref.ensures.value at given.1) in
    rw (← c.in-Ok.ensures.command) (all.too_many is)

pub returns-in-Ok-answer_to-clause-too_wide : goal.returns-in-Ok-answer_to-clause-too_wide
returns-in-Ok-answer_to-clause-too_wide g c is =
    let given = c.give-in-Ok-answer_to.ensures.given (λ four. cc) in
    let all = brought g.I.Inputs.faults g.I.Inputs.last_fault (g.I.Inputs.content c.args.inputs.now)
    (command_view c.in-Ok.command) c.args.inputs.now c.answer_to.new.inputs (reply_of c.in-Ok-answer_to.answer)
    c.give-in-Ok-answer_to.result (output g.K.Sink.written g.K.Sink.puts c.args.out.now) (output g.K.Sink.written g.K.Sink.puts c.give-in-Ok-answer_to.new.out)
    c.in-Ok-answer_to.ensures.reply (given.0, rw c.deref.ensures.value at given.1) in
    rw (← c.in-Ok.ensures.command) (all.too_wide is)

pub returns-in-Ok-answer_to-clause-cycle : goal.returns-in-Ok-answer_to-clause-cycle
returns-in-Ok-answer_to-clause-cycle g c is =
    let given = c.give-in-Ok-answer_to.ensures.given (λ four. cc) in
    let all = brought g.I.Inputs.faults g.I.Inputs.last_fault (g.I.Inputs.content c.args.inputs.now)
    (command_view c.in-Ok.command) c.args.inputs.now c.answer_to.new.inputs (reply_of c.in-Ok-answer_to.answer)
    c.give-in-Ok-answer_to.result (output g.K.Sink.written g.K.Sink.puts c.args.out.now) (output g.K.Sink.written g.K.Sink.puts c.give-in-Ok-answer_to.new.out)
    c.in-Ok-answer_to.ensures.reply (given.0, rw c.deref.ensures.value at given.1) in
    rw (← c.in-Ok.ensures.command) (all.cycle is)

pub returns-in-Ok-answer_to-clause-breach : goal.returns-in-Ok-answer_to-clause-breach
returns-in-Ok-answer_to-clause-breach g c is =
    let given = c.give-in-Ok-answer_to.ensures.given (λ four. cc) in
    let all = brought g.I.Inputs.faults g.I.Inputs.last_fault (g.I.Inputs.content c.args.inputs.now)
    (command_view c.in-Ok.command) c.args.inputs.now c.answer_to.new.inputs (reply_of c.in-Ok-answer_to.answer)
    c.give-in-Ok-answer_to.result (output g.K.Sink.written g.K.Sink.puts c.args.out.now) (output g.K.Sink.written g.K.Sink.puts c.give-in-Ok-answer_to.new.out)
    c.in-Ok-answer_to.ensures.reply (given.0, rw c.deref.ensures.value at given.1) in
    rw (← c.in-Ok.ensures.command) (all.breach is)

pub returns-in-Ok-answer_to-clause-done : goal.returns-in-Ok-answer_to-clause-done
returns-in-Ok-answer_to-clause-done g c is =
    let given = c.give-in-Ok-answer_to.ensures.given (λ four. cc) in
    let all = brought g.I.Inputs.faults g.I.Inputs.last_fault (g.I.Inputs.content c.args.inputs.now)
    (command_view c.in-Ok.command) c.args.inputs.now c.answer_to.new.inputs (reply_of c.in-Ok-answer_to.answer)
    c.give-in-Ok-answer_to.result (output g.K.Sink.written g.K.Sink.puts c.args.out.now) (output g.K.Sink.written g.K.Sink.puts c.give-in-Ok-answer_to.new.out)
    c.in-Ok-answer_to.ensures.reply (given.0, rw c.deref.ensures.value at given.1) in
    rw (← c.in-Ok.ensures.command) (all.done is)

pub returns-in_default-clause-answers : goal.returns-in_default-clause-answers
returns-in_default-clause-answers g c four five =
    let given = c.give.ensures.given four in
    (usage commands, rw c.in_default.ensures.not_taken refl, (given.0, rw c.as_bytes.ensures.value at given.1))

pub returns-in_default-clause-write_fault : goal.returns-in_default-clause-write_fault
returns-in_default-clause-write_fault g c four =
    let failed = c.give.ensures.failed four in
    (usage commands, rw c.in_default.ensures.not_taken refl, rw c.as_bytes.ensures.value at failed)

pub returns-in-Ok-answer_to-clause-answers : goal.returns-in-Ok-answer_to-clause-answers
returns-in-Ok-answer_to-clause-answers g c four five =
    let given = c.give-in-Ok-answer_to.ensures.given four in (
      reply_of c.in-Ok-answer_to.answer,
      rw (← c.in-Ok.ensures.command) c.in-Ok-answer_to.ensures.reply,
      (given.0, rw c.deref.ensures.value at given.1),
    )

pub returns-in-Ok-answer_to-clause-counts : goal.returns-in-Ok-answer_to-clause-counts
returns-in-Ok-answer_to-clause-counts g c =
    rw (← c.in-Ok.ensures.command)
    (counts_at (g.I.Inputs.content c.args.inputs.now) (command_view c.in-Ok.command)
    (reply_of c.in-Ok-answer_to.answer).status c.give-in-Ok-answer_to.result c.args.steps.now c.answer_to.new.steps
    (λ other. (c.give-in-Ok-answer_to.ensures.given other).0) c.in-Ok-answer_to.ensures.counts)

pub returns-in-Ok-answer_to-clause-write_fault : goal.returns-in-Ok-answer_to-clause-write_fault
returns-in-Ok-answer_to-clause-write_fault g c four =
    let failed = c.give-in-Ok-answer_to.ensures.failed four in (
      reply_of c.in-Ok-answer_to.answer,
      rw (← c.in-Ok.ensures.command) c.in-Ok-answer_to.ensures.reply,
      record { rose = failed.rose; front = rw c.deref.ensures.value at failed.front },
    )

pub returns-in-Ok-answer_to-clause-told : goal.returns-in-Ok-answer_to-clause-told
returns-in-Ok-answer_to-clause-told g c =
    let told = told_given g.I.Inputs.faults g.I.Inputs.last_fault (g.I.Inputs.content c.args.inputs.now)
    (command_view c.in-Ok.command) c.args.inputs.now c.answer_to.new.inputs (reply_of c.in-Ok-answer_to.answer)
    c.give-in-Ok-answer_to.result (output g.K.Sink.written g.K.Sink.puts c.args.out.now) (output g.K.Sink.written g.K.Sink.puts c.give-in-Ok-answer_to.new.out) c.in-Ok-answer_to.ensures.reply
    (λ other. let given = c.give-in-Ok-answer_to.ensures.given other in (given.0, rw c.deref.ensures.value at given.1)) in
    rw (← c.in-Ok.ensures.command) told

pub returns-in-Ok-answer_to-clause-complete : goal.returns-in-Ok-answer_to-clause-complete
returns-in-Ok-answer_to-clause-complete g c =
    let command = command_view c.in-Ok.command in
    let content = g.I.Inputs.content c.args.inputs.now in
    let old = output g.K.Sink.written g.K.Sink.puts c.args.out.now in
    let new = output g.K.Sink.written g.K.Sink.puts c.give-in-Ok-answer_to.new.out in
    let told = told_given g.I.Inputs.faults g.I.Inputs.last_fault content command
    c.args.inputs.now c.answer_to.new.inputs (reply_of c.in-Ok-answer_to.answer) c.give-in-Ok-answer_to.result
    old new c.in-Ok-answer_to.ensures.reply
    (λ other. let given = c.give-in-Ok-answer_to.ensures.given other in (given.0, rw c.deref.ensures.value at given.1)) in
    rw (← c.in-Ok.ensures.command) (answers_what_it_can command content c.give-in-Ok-answer_to.result old new told)

-- memory is refused, for the words or later
pub returns-in_default-parsed-clause-not_taken : goal.returns-in_default-parsed-clause-not_taken
returns-in_default-parsed-clause-not_taken g c none =
    let never : false ≡ true = sym (ap is_some none) ∙ c.in-Some.ensures.taken in
    absurd (cc)

pub returns-in_default-parsed-clause-told : goal.returns-in_default-parsed-clause-told
returns-in_default-parsed-clause-told g c =
    nothing_told (command_of (texts c.args.words.now)) (g.I.Inputs.content c.args.inputs.now) c.code.result
    (output g.K.Sink.written g.K.Sink.puts c.args.out.now) (output g.K.Sink.written g.K.Sink.puts c.args.out.now) c.code.ensures

pub returns-in_default-parsed-clause-complete : goal.returns-in_default-parsed-clause-complete
returns-in_default-parsed-clause-complete g c =
    nothing_answered (command_of (texts c.args.words.now)) (g.I.Inputs.content c.args.inputs.now) c.code.result
    c.code.ensures

pub returns-in_default-parsed-clause-counts : goal.returns-in_default-parsed-clause-counts
returns-in_default-parsed-clause-counts g c =
    nothing_counted g.I.Inputs.content (command_of (texts c.args.words.now)) c.args.inputs.now c.code.result
    c.args.steps.now c.code.ensures

pub returns-in-Err-clause-told : goal.returns-in-Err-clause-told
returns-in-Err-clause-told g c =
    nothing_told (command_of (texts c.args.words.now)) (g.I.Inputs.content c.args.inputs.now) c.code-in-Err.result
    (output g.K.Sink.written g.K.Sink.puts c.args.out.now) (output g.K.Sink.written g.K.Sink.puts c.args.out.now) c.code-in-Err.ensures

pub returns-in-Err-clause-complete : goal.returns-in-Err-clause-complete
returns-in-Err-clause-complete g c =
    nothing_answered (command_of (texts c.args.words.now)) (g.I.Inputs.content c.args.inputs.now) c.code-in-Err.result
    c.code-in-Err.ensures

-- the files that are asked for
pub returns-in_default-clause-asked : goal.returns-in_default-clause-asked
returns-in_default-clause-asked g c =
    asks_none g.I.Inputs.asked g.I.Inputs.had (names_of (command_of (texts c.args.words.now))) c.args.inputs.now

pub returns-in_default-clause-asked_all : goal.returns-in_default-clause-asked_all
returns-in_default-clause-asked_all g c on =
    absurd (not_for_usage c.give.result (λ other. (c.give.ensures.given other).0) on)

pub returns-in_default-parsed-clause-asked : goal.returns-in_default-parsed-clause-asked
returns-in_default-parsed-clause-asked g c =
    asks_none g.I.Inputs.asked g.I.Inputs.had (names_of (command_of (texts c.args.words.now))) c.args.inputs.now

pub returns-in_default-parsed-clause-asked_all : goal.returns-in_default-parsed-clause-asked_all
returns-in_default-parsed-clause-asked_all g c on = absurd (not_for_memory c.code.result c.code.ensures on)

pub returns-in-Ok-answer_to-clause-asked : goal.returns-in-Ok-answer_to-clause-asked
returns-in-Ok-answer_to-clause-asked g c = rw (← c.in-Ok.ensures.command) c.answer_to.ensures.asked_for

pub returns-in-Ok-answer_to-clause-asked_all : goal.returns-in-Ok-answer_to-clause-asked_all
returns-in-Ok-answer_to-clause-asked_all g c on =
    rw (← c.in-Ok.ensures.command)
    (c.in-Ok-answer_to.ensures.all (stands_given (reply_of c.in-Ok-answer_to.answer).status c.give-in-Ok-answer_to.result
    (λ other. (c.give-in-Ok-answer_to.ensures.given other).0) on))

pub returns-in-Err-clause-asked : goal.returns-in-Err-clause-asked
returns-in-Err-clause-asked g c = rw (← c.in-Ok.ensures.command) c.answer_to.ensures.asked_for

pub returns-in-Err-clause-asked_all : goal.returns-in-Err-clause-asked_all
returns-in-Err-clause-asked_all g c on = absurd (not_for_memory c.code-in-Err.result c.code-in-Err.ensures on)

-- ---- other statuses
pub returns-in_default-clause-not_taken : goal.returns-in_default-clause-not_taken
returns-in_default-clause-not_taken g c none =
    elim (cases_eq c.give.result 4) [
      | inl four ↦ inr four
      | inr other ↦ let given = c.give.ensures.given other in inl (given.0, rw c.as_bytes.ensures.value at given.1)
    ]

pub returns-in-Ok-answer_to-clause-usage : goal.returns-in-Ok-answer_to-clause-usage
returns-in-Ok-answer_to-clause-usage g c is =
    let no = none_is_usage_or_memory g.I.Inputs.faults g.I.Inputs.last_fault (g.I.Inputs.content c.args.inputs.now)
    (command_view c.in-Ok.command) c.args.inputs.now c.answer_to.new.inputs (reply_of c.in-Ok-answer_to.answer)
    c.in-Ok-answer_to.ensures.reply in
    let given = c.give-in-Ok-answer_to.ensures.given (λ four. cc) in
    absurd (no.0 (sym given.0 ∙ is))

pub returns-in-Ok-answer_to-clause-no_memory : goal.returns-in-Ok-answer_to-clause-no_memory
returns-in-Ok-answer_to-clause-no_memory g c is =
    let no = none_is_usage_or_memory g.I.Inputs.faults g.I.Inputs.last_fault (g.I.Inputs.content c.args.inputs.now)
    (command_view c.in-Ok.command) c.args.inputs.now c.answer_to.new.inputs (reply_of c.in-Ok-answer_to.answer)
    c.in-Ok-answer_to.ensures.reply in
    let given = c.give-in-Ok-answer_to.ensures.given (λ four. cc) in
    absurd (no.1 (sym given.0 ∙ is))

pub returns-in-Ok-answer_to-clause-no_put : goal.returns-in-Ok-answer_to-clause-no_put
returns-in-Ok-answer_to-clause-no_put g c is =
    let no = none_is_usage_or_memory g.I.Inputs.faults g.I.Inputs.last_fault (g.I.Inputs.content c.args.inputs.now)
    (command_view c.in-Ok.command) c.args.inputs.now c.answer_to.new.inputs (reply_of c.in-Ok-answer_to.answer)
    c.in-Ok-answer_to.ensures.reply in
    let given = c.give-in-Ok-answer_to.ensures.given (λ four. cc) in
    absurd (no.1 (sym given.0 ∙ is))
