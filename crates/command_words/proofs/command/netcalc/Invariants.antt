use Rattle.std.proofs.Common.{◌≡◌, take, fold, codes}
use Rattle.clap.specs.Words.{app_of, new_app}
use Rattle.command_words.proofs.Rules.{with_row}
use Rattle.command_words.proofs.command.netcalc.Given as goal

abbrev pub invariant-loop-word : goal.invariant-loop-word
invariant-loop-word l = app_of l.whole ≡ fold with_row (new_app (codes "netcalc")) (take l.word-index l.word-items)
