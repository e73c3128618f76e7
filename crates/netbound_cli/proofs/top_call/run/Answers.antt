use Rattle.std.proofs.Common.{◌≢◌, ℕ, refl, sym, ◌∙◌, subst, inl, inr, arith}
use Rattle.bounds_command.specs.View.{reply_of}
use Rattle.netbound_cli.specs.Calls.{call_of, files_of, text_of}
use Rattle.netbound_cli.specs.words.Requests.{request_of, texts}
use Rattle.outside.specs.Files.{all_told}
use Rattle.replies.proofs.FileLemmas.{any_told}
use Rattle.netbound_cli.proofs.Outcomes.{known_status, never, not_failed, outcome}
use Rattle.netbound_cli.specs.Reply.{Gives, IsOnBoth, output}
use Rattle.netbound_cli.proofs.top_call.run.Goals as goal

pub give-requires : goal.give-requires
give-requires g c =
    rw c.code.ensures (never g.I.Inputs.content g.I.Inputs.faults g.I.Inputs.last_fault g.I.Inputs.asked (request_of (texts c.args.words.now))
    c.args.inputs.now c.answered.new.inputs (reply_of c.in-Ok.answer) c.in-Ok.ensures.reply).0

pub returns-in-Ok : goal.returns-in-Ok
returns-in-Ok g c =
    let old = output g.K.Sink.written g.K.Sink.puts c.args.out.now in
    let new = output g.K.Sink.written g.K.Sink.puts c.give.new.out in
    let given : c.give.result ≢ 4 → Gives c.give.result old new (reply_of c.in-Ok.answer) =
    λ unlike. let done = c.give.ensures.given unlike in
    (done.0 ∙ c.code.ensures, rw c.deref.ensures.value at done.1) in
    let put = rw c.deref.ensures.value at c.give.ensures.put in
    let all = outcome g.I.Inputs.content g.I.Inputs.faults g.I.Inputs.last_fault g.I.Inputs.asked
    (request_of (texts c.args.words.now))
    c.args.inputs.now c.answered.new.inputs (reply_of c.in-Ok.answer) c.give.result
    old new c.in-Ok.ensures.reply given in
    let no = never g.I.Inputs.content g.I.Inputs.faults g.I.Inputs.last_fault g.I.Inputs.asked (request_of (texts c.args.words.now))
    c.args.inputs.now c.answered.new.inputs (reply_of c.in-Ok.answer) c.in-Ok.ensures.reply in
    record {
      known = known_status g.I.Inputs.content g.I.Inputs.faults g.I.Inputs.last_fault g.I.Inputs.asked
          (request_of (texts c.args.words.now)) c.args.inputs.now c.answered.new.inputs (reply_of c.in-Ok.answer)
          c.give.result c.in-Ok.ensures.reply (λ unlike. (given unlike).0);
      usage = all.usage;
      text = all.text;
      read_fault = all.read_fault;
      malformed = all.malformed;
      cycle = all.cycle;
      missed = all.missed;
      done = all.done;
      write_fault = λ four. let failed = c.give.ensures.failed four in (
        reply_of c.in-Ok.answer,
        c.in-Ok.ensures.reply,
        record { rose = failed.rose; front = rw c.deref.ensures.value at failed.front },
      );
      no_memory = λ five. absurd (no.1 (sym (given (λ four. absurd (cc))).0 ∙ five));
      told = all.told;
      complete = all.complete;
      answers = λ four five. (reply_of c.in-Ok.answer, c.in-Ok.ensures.reply, given four);
      asked = c.answered.ensures.asked;
      asked_all = λ both.
          let P : ℕ → Type 0 = λ n. IsOnBoth n in
          c.in-Ok.ensures.all (subst P (given (not_failed c.give.result both).0).0 both);
      one_put = λ five. (reply_of c.in-Ok.answer, c.in-Ok.ensures.reply, put);
      no_put = λ five. absurd (no.1 (sym (given (λ four. absurd (cc))).0 ∙ five));
    }

pub returns-in-Err : goal.returns-in-Err
returns-in-Err g c =
    let content = g.I.Inputs.content c.args.inputs.now in
    let request = request_of (texts c.args.words.now) in
    let five = c.code-in-Err.ensures in
    record {
      known = inl (omega (arith, five));
      usage = λ two. absurd (cc);
      text = any_told (text_of request) _ (λ reply. inr (inr five));
      read_fault = λ three. absurd (cc);
      malformed = λ one. absurd (cc);
      cycle = λ eight. absurd (cc);
      missed = λ nine. absurd (cc);
      done = λ zero. absurd (cc);
      write_fault = λ four. absurd (cc);
      no_memory = λ is. refl;
      told = any_told (call_of request) _ (λ call. any_told (all_told content (files_of call)) _ (λ files. inr (inr (inr five))));
      complete = any_told (call_of request) _ (λ call. any_told (all_told content (files_of call)) _ (λ files fit can. inr (inr (inr (inr five)))));
      answers = λ four no_five. absurd (no_five five);
      asked = c.answered.ensures.asked;
      asked_all = λ both. absurd ((not_failed c.code-in-Err.result both).1 five);
      one_put = λ no_five. absurd (no_five five);
      no_put = λ is. refl;
    }
