use Rattle.std.proofs.Common.{◌≡◌, false, take}
use Rattle.std.specs.Prelude.{map}
use Rattle.clap.specs.Words.{app_of}
use Rattle.clap.specs.declared.builder.command.Command.TheViews.{out-Command}
use Rattle.command_words.specs.Apps.{of_arguments}
use Rattle.command_words.proofs.command.of_arguments.Given as goal

abbrev pub invariant-loop-id : goal.invariant-loop-id
invariant-loop-id l =
    (app_of l.command ≡ of_arguments l.word (map (λ id. id.now) (take l.id-index l.ids))) × ((out-Command l.command).has_globals ≡ false)
