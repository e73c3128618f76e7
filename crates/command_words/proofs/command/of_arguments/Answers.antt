use Rattle.std.proofs.Common.{List, ap, sym, ◌∙◌}
use Rattle.std.specs.Prelude.{map}
use Rattle.std.specs.Borrow.{Bor}
use Rattle.std.proofs.lemmas.List.{take_all}
use Rattle.clap.specs.Words.{Text}
use Rattle.command_words.specs.Apps.{of_arguments}
use Rattle.command_words.proofs.Rules.{argument_more, more_app, more_local}
use Rattle.command_words.proofs.command.of_arguments.Goals as goal

pub loop-id-init : goal.loop-id-init
loop-id-init c = (c.new-command.ensures.app, c.new-command.ensures.local)

pub loop-id-preserved : goal.loop-id-preserved
loop-id-preserved c = (
  more_app c.loop-id.command c.in_ok-command.command c.argument.result c.argument.ensures.local c.in_ok-command.ensures _ _
      c.loop-id.invariant.0 c.argument.ensures.rule
      ∙ sym (argument_more c.args.word.now c.args.ids.now c.loop-id.id-index _ c.loop-id-test.true),
  more_local c.loop-id.command c.in_ok-command.command c.argument.result c.argument.ensures.local c.in_ok-command.ensures
      c.loop-id.invariant.1,
)

pub returns-clause-app : goal.returns-clause-app
returns-clause-app c =
    c.loop-id.invariant.0
    ∙ ap (λ (xs : List (Bor Text)). of_arguments c.args.word.now (map (λ id. id.now) xs))
    (take_all c.loop-id.id-index c.args.ids.now c.loop-id-test.false)

pub returns-clause-local : goal.returns-clause-local
returns-clause-local c = c.loop-id.invariant.1
