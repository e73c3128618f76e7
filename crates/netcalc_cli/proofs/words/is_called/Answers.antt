use Rattle.std.proofs.Common.{◌++◌, ◌∷◌, [], List, ℕ, ap, ◌∙◌, arith, length-append}
use Rattle.std.specs.Prelude.{is_some}
use Rattle.netcalc_cli.specs.View.{command_view}
use Rattle.netcalc_cli.proofs.WordLists.{of_one, of_two, of_four, of_others, same_of_two, same_of_four, some_called}
use Rattle.netcalc_cli.proofs.words.is_called.Goals as goal

pub returns-then-count-eq1 : goal.returns-then-count-eq1
returns-then-count-eq1 c =
    let words = c.args.before.now ++ c.args.after.now in
    let both = length-append c.args.before.now c.args.after.now in
    some_called command_view c.called.result c.is_some.result c.args.word.now words c.args.json _ c.is_some.ensures
    c.called.ensures.command
    (ap (λ (t : List ℕ). t ∷ []) c.as_str-file.ensures.value
    ∙ of_one words c.word_of.result.now (omega (arith, both)) c.word_of.ensures)

pub returns-then-count-eq2 : goal.returns-then-count-eq2
returns-then-count-eq2 c =
    let words = c.args.before.now ++ c.args.after.now in
    let both = length-append c.args.before.now c.args.after.now in
    some_called command_view c.called-then-count-eq2.result c.is_some-then-count-eq2.result c.args.word.now words
    c.args.json _ c.is_some-then-count-eq2.ensures c.called-then-count-eq2.ensures.command
    (same_of_two (λ (t u : List ℕ). t ∷ u ∷ []) _ _ _ _ c.as_str-first.ensures.value c.as_str-second.ensures.value
    ∙ of_two words c.word_of-then-count-eq2.result.now c.word_of-then-count-eq2-2.result.now (omega (arith, both))
    c.word_of-then-count-eq2.ensures c.word_of-then-count-eq2-2.ensures)

pub returns-then-count-eq4 : goal.returns-then-count-eq4
returns-then-count-eq4 c =
    let words = c.args.before.now ++ c.args.after.now in
    let both = length-append c.args.before.now c.args.after.now in
    some_called command_view c.called-then-count-eq4.result c.is_some-then-count-eq4.result c.args.word.now words
    c.args.json _ c.is_some-then-count-eq4.ensures c.called-then-count-eq4.ensures.command
    (same_of_four (λ (t u v w : List ℕ). t ∷ u ∷ v ∷ w ∷ []) _ _ _ _ _ _ _ _ c.as_str-net.ensures.value
    c.as_str-trace.ensures.value c.as_str-name.ensures.value c.as_str-rate.ensures.value
    ∙ of_four words c.word_of-then-count-eq4.result.now c.word_of-then-count-eq4-2.result.now
    c.word_of-then-count-eq4-3.result.now c.word_of-then-count-eq4-4.result.now (omega (arith, both))
    c.word_of-then-count-eq4.ensures c.word_of-then-count-eq4-2.ensures c.word_of-then-count-eq4-3.ensures
    c.word_of-then-count-eq4-4.ensures)

pub returns : goal.returns
returns c =
    let both = length-append c.args.before.now c.args.after.now in
    ap is_some (of_others c.args.word.now (c.args.before.now ++ c.args.after.now) c.args.json
    (λ one. absurd (omega (arith, one, both))) (λ two. absurd (omega (arith, two, both)))
    (λ four. absurd (omega (arith, four, both))))
