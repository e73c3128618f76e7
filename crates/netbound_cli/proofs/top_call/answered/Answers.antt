use Rattle.std.proofs.Common.{◌≡◌, None, Some, inr, sym, ap}
use Rattle.std.proofs.lemmas.Result.{IfOk-weaker}
use Rattle.bounds_command.specs.View.{reply_of}
use Rattle.netbound_cli.specs.words.Requests.{Help, Version, request_of, texts}
use Rattle.netbound_cli.specs.words.View.{bounds_view}
use Rattle.netbound_cli.specs.Calls.{bounds_call, call_of, names_of}
use Rattle.replies.proofs.Fetches.{asks_none}
use Rattle.netbound_cli.proofs.Outcomes.{may_reply_text, text_asks}
use Rattle.netbound_cli.proofs.top_call.answered.Goals as goal

pub returns-in-Ok-Help-clause-reply : goal.returns-in-Ok-Help-clause-reply
returns-in-Ok-Help-clause-reply g c =
    let asked : request_of (texts c.args.words.now) ≡ Some Help = rw c.in-Ok-Help.field-0-is at
    c.in-Ok-Help.ensures.request in
    IfOk-weaker c.text_answer.result _ _
    (λ r is. may_reply_text g.I.Inputs.content g.I.Inputs.faults g.I.Inputs.last_fault g.I.Inputs.asked
    (request_of (texts c.args.words.now)) (Some Help)
    c.args.inputs.now (reply_of r) asked (ap Some (sym is)))
    c.text_answer.ensures

pub returns-in-Ok-Version-clause-reply : goal.returns-in-Ok-Version-clause-reply
returns-in-Ok-Version-clause-reply g c =
    let asked : request_of (texts c.args.words.now) ≡ Some Version = rw c.in-Ok-Version.field-0-is at
    c.in-Ok-Version.ensures.request in
    IfOk-weaker c.text_answer-in-Ok-Version.result _ _
    (λ r is. may_reply_text g.I.Inputs.content g.I.Inputs.faults g.I.Inputs.last_fault g.I.Inputs.asked
    (request_of (texts c.args.words.now)) (Some Version)
    c.args.inputs.now (reply_of r) asked (ap Some (sym is)))
    c.text_answer-in-Ok-Version.ensures

pub returns-in-Err-NotTaken-clause-reply : goal.returns-in-Err-NotTaken-clause-reply
returns-in-Err-NotTaken-clause-reply g c =
    let asked : request_of (texts c.args.words.now) ≡ None = rw c.in-Err-NotTaken.field-0-is at
    c.in-Err-NotTaken.ensures.request in
    IfOk-weaker c.text_answer-in-Err-NotTaken.result _ _
    (λ r is. may_reply_text g.I.Inputs.content g.I.Inputs.faults g.I.Inputs.last_fault g.I.Inputs.asked
    (request_of (texts c.args.words.now)) None
    c.args.inputs.now (reply_of r) asked (ap Some (sym is)))
    c.text_answer-in-Err-NotTaken.ensures

pub returns-in-Ok-Bounds-clause-reply : goal.returns-in-Ok-Bounds-clause-reply
returns-in-Ok-Bounds-clause-reply g c =
    let asked : request_of (texts c.args.words.now) ≡ Some (bounds_view c.in-Ok-Bounds.asked) = rw c.in-Ok-Bounds.field-0-is
    at c.in-Ok-Bounds.ensures.request in
    IfOk-weaker c.answer_to.result _ _
    (λ r may. inr (bounds_call c.in-Ok-Bounds.asked, ap call_of asked, may)) c.answer_to.ensures.reply

-- ---- asked for
pub returns-in-Ok-Bounds-clause-asked : goal.returns-in-Ok-Bounds-clause-asked
returns-in-Ok-Bounds-clause-asked g c =
    let asked : request_of (texts c.args.words.now) ≡ Some (bounds_view c.in-Ok-Bounds.asked) = rw c.in-Ok-Bounds.field-0-is
    at c.in-Ok-Bounds.ensures.request in
    rw asked c.answer_to.ensures.asked

pub returns-in-Ok-Bounds-clause-all : goal.returns-in-Ok-Bounds-clause-all
returns-in-Ok-Bounds-clause-all g c =
    let asked : request_of (texts c.args.words.now) ≡ Some (bounds_view c.in-Ok-Bounds.asked) = rw c.in-Ok-Bounds.field-0-is
    at c.in-Ok-Bounds.ensures.request in
    rw asked c.answer_to.ensures.all

pub returns-in-Ok-Help-clause-asked : goal.returns-in-Ok-Help-clause-asked
returns-in-Ok-Help-clause-asked g c = asks_none g.I.Inputs.asked g.I.Inputs.had (names_of (request_of (texts c.args.words.now))) c.args.inputs.now

pub returns-in-Ok-Help-clause-all : goal.returns-in-Ok-Help-clause-all
returns-in-Ok-Help-clause-all g c =
    let asked : request_of (texts c.args.words.now) ≡ Some Help = rw c.in-Ok-Help.field-0-is at
    c.in-Ok-Help.ensures.request in
    IfOk-weaker c.text_answer.result _ _
    (λ r is both. text_asks g.I.Inputs.asked g.I.Inputs.had (request_of (texts c.args.words.now)) c.args.inputs.now (ap call_of asked))
    c.text_answer.ensures

pub returns-in-Ok-Version-clause-asked : goal.returns-in-Ok-Version-clause-asked
returns-in-Ok-Version-clause-asked g c = asks_none g.I.Inputs.asked g.I.Inputs.had (names_of (request_of (texts c.args.words.now))) c.args.inputs.now

pub returns-in-Ok-Version-clause-all : goal.returns-in-Ok-Version-clause-all
returns-in-Ok-Version-clause-all g c =
    let asked : request_of (texts c.args.words.now) ≡ Some Version = rw c.in-Ok-Version.field-0-is at
    c.in-Ok-Version.ensures.request in
    IfOk-weaker c.text_answer-in-Ok-Version.result _ _
    (λ r is both. text_asks g.I.Inputs.asked g.I.Inputs.had (request_of (texts c.args.words.now)) c.args.inputs.now (ap call_of asked))
    c.text_answer-in-Ok-Version.ensures

pub returns-in-Err-NotTaken-clause-asked : goal.returns-in-Err-NotTaken-clause-asked
returns-in-Err-NotTaken-clause-asked g c = asks_none g.I.Inputs.asked g.I.Inputs.had (names_of (request_of (texts c.args.words.now))) c.args.inputs.now

pub returns-in-Err-NotTaken-clause-all : goal.returns-in-Err-NotTaken-clause-all
returns-in-Err-NotTaken-clause-all g c =
    let asked : request_of (texts c.args.words.now) ≡ None = rw c.in-Err-NotTaken.field-0-is at
    c.in-Err-NotTaken.ensures.request in
    IfOk-weaker c.text_answer-in-Err-NotTaken.result _ _
    (λ r is both. text_asks g.I.Inputs.asked g.I.Inputs.had (request_of (texts c.args.words.now)) c.args.inputs.now (ap call_of asked))
    c.text_answer-in-Err-NotTaken.ensures

pub returns-in-Err-NoMemory-clause-asked : goal.returns-in-Err-NoMemory-clause-asked
returns-in-Err-NoMemory-clause-asked g c = asks_none g.I.Inputs.asked g.I.Inputs.had (names_of (request_of (texts c.args.words.now))) c.args.inputs.now
