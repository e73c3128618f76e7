use Rattle.std.proofs.Common.{◌∷◌, refl, ap, sym, ◌∙◌}
use Rattle.std.proofs.lemmas.Result.{IfOk-weaker}
use Rattle.clap.specs.Words.{App, Text, is_simple, subcommand_of, takes}
use Rattle.command_words.specs.Lines.{texts, operands_of, asks_json}
use Rattle.command_words.proofs.Entering.{simple}
use Rattle.command_words.proofs.Taken.{is_taken, is_called}
use Rattle.command_words.proofs.call.parse.Goals as goal

pub call_of-requires : goal.call_of-requires
call_of-requires c =
    let words = texts c.args.words.now in
    let app = c.in_ok-command.ensures in
    let met = (c.in-Ok.ensures.matches (ap is_simple app ∙ simple)).1
    ∙ ap (λ (a : App). subcommand_of a words) app ∙ (is_called words c.requires).is in
    rw met refl

pub unreachable-requires : goal.unreachable-requires
unreachable-requires c =
    let words = texts c.args.words.now in
    c.in_default.not-OutOfMemory
    (c.kind.ensures
    ∙ c.in-Err.ensures.passes (ap (λ (a : App). takes a words) c.in_ok-command.ensures ∙ is_taken words c.requires))

pub returns-in-Ok : goal.returns-in-Ok
returns-in-Ok c =
    let words = texts c.args.words.now in
    let line = c.requires in
    let app = c.in_ok-command.ensures in
    let called = is_called words line in
    let met = (c.in-Ok.ensures.matches (ap is_simple app ∙ simple)).1
    ∙ ap (λ (a : App). subcommand_of a words) app ∙ called.is in
    IfOk-weaker c.call_of.result _ _
    (λ call told.
    let of = told line.word (operands_of line.rest) (asks_json line.rest)
    (record { rows = called.rows; is = met; given = called.given }) in
    record {
      program = line.program;
      rest = line.rest;
      is = line.is ∙ ap (λ (w : Text). line.program ∷ w ∷ line.rest) (sym of.0);
      given = of.1;
      asks = of.2;
    })
    c.call_of.ensures
