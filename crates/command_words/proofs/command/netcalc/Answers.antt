use Rattle.std.proofs.Common.{◌≡◌, codes, sym, ◌∙◌, arith}
use Rattle.std.proofs.lemmas.List.Sums.{fold_more}
use Rattle.clap.specs.Words.{new_app}
use Rattle.command_words.proofs.Rules.{below_is, with_row}
use Rattle.command_words.proofs.command.netcalc.Goals as goal

pub loop-word-init : goal.loop-word-init
loop-word-init c = c.new-whole.ensures.app

pub loop-word-preserved : goal.loop-word-preserved
loop-word-preserved c =
    below_is c.loop-word.whole c.in_ok-whole.whole _ c.in_ok-of_arguments.ensures.local c.in_ok-whole.ensures _ _
    c.loop-word.invariant c.in_ok-of_arguments.ensures.app
    ∙ sym (fold_more with_row (new_app (codes "netcalc")) _ c.loop-word.word-index _ c.loop-word-test.true)

pub returns : goal.returns
returns c =
    let all : c.loop-word.word-index ≡ 7 = omega arith in
    rw all at c.loop-word.invariant
