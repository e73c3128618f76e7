use Rattle.std.proofs.Common.{◌≡◌, ◌-◌, ◌+◌, ◌++◌, List, String, length, take, drop, Some, true, false, sym, ap, ◌∙◌, arith, length-drop}
use Rattle.std.specs.Prelude.{string_bytes}
use Rattle.std.specs.declared.alloc.Global.{Global}
use Rattle.std.proofs.lemmas.List.{take_all}
use Rattle.command_words.specs.Lines.{texts, is_json}
use Rattle.command_words.proofs.JsonWords.{found_at, none_more, none_at_all}
use Rattle.command_words.proofs.lines.around_json.Goals as goal

pub returns-then-eq-clause-found : goal.returns-then-eq-clause-found
returns-then-eq-clause-found c =
    let words = c.args.words.now in
    let i = c.loop-place.place in
    let all : take (length words - (i + 1)) (drop (i + 1) words) ≡ drop (i + 1) words =
    take_all (length words - (i + 1)) (drop (i + 1) words) (omega (arith, length-drop (i + 1) words)) in
    let json : is_json (string_bytes c.index-words-place.result) ≡ true =
    sym (rw c.as_str.ensures.value at c.eq.ensures) ∙ c.if-eq.true in
    found_at words i c.index-words-place.result c.loop-place-test.true c.index-words-place.is json c.loop-place.invariant
    ∙ ap (λ (ws : List (String Global)). Some (texts (take i words ++ ws))) (sym all)

pub loop-place-preserved : goal.loop-place-preserved
loop-place-preserved c =
    let json : is_json (string_bytes c.index-words-place.result) ≡ false =
    sym (rw c.as_str.ensures.value at c.eq.ensures) ∙ c.if-eq.false in
    none_more c.args.words.now c.loop-place.place c.index-words-place.result c.loop-place-test.true
    c.index-words-place.is json c.loop-place.invariant

pub returns-clause-none : goal.returns-clause-none
returns-clause-none c = none_at_all c.args.words.now c.loop-place.place c.loop-place-test.false c.loop-place.invariant
