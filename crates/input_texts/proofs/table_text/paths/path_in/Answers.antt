use Rattle.std.proofs.Common.{◌≡◌, ◌++◌, ◌∷◌, [], ◌+◌, map, length, ap, arith, ◌∙◌}
use Rattle.std.specs.List.{slice_range}
use Rattle.std.proofs.lemmas.List.{take_rest, length-drop, map_push}
use Rattle.input_texts.specs.table_text.Paths.{entry_view, path_in, entry_in}
use Rattle.input_texts.proofs.table_text.PathTexts.{joined, read_in, words_from, next_word, joined_none, one_more, none_here, all_read, missing_all}
use Rattle.input_texts.proofs.table_text.paths.path_in.Goals as goal

pub loop-start-init : goal.loop-start-init
loop-start-init c =
    record {
      near = omega arith;
      read = ap (λ es. joined (map entry_view es) (path_in c.args.text.now)) c.new-entries.ensures.items ∙ joined_none (path_in c.args.text.now);
    }

pub returns-in-Err : goal.returns-in-Err
returns-in-Err c =
    let text = c.args.text.now in
    let start = c.loop-start.start in
    let n = c.word_len.result in
    let words = next_word text _ start n c.loop-start-test.true (take_rest text start) c.word_len.ensures.within c.word_len.ensures.none c.word_len.ensures.ends in
    missing_all c.in-Err.kind (entry_in (slice_range text start (start + n))) (path_in text)
    (none_here (words_from text start) (slice_range text start (start + n)) (words_from text (start + n + 1)) (map entry_view c.loop-start.entries.items) (path_in text) words c.loop-start.invariant.read)
    c.in-Err.ensures

pub loop-start-preserved : goal.loop-start-preserved
loop-start-preserved c =
    let text = c.args.text.now in
    let start = c.loop-start.start in
    let n = c.word_len.result in
    let words = next_word text _ start n c.loop-start-test.true (take_rest text start) c.word_len.ensures.within c.word_len.ensures.none c.word_len.ensures.ends in
    let old = c.loop-start.entries.items in
    let grown : map entry_view c.push.new.self.items ≡ map entry_view old ++ entry_view c.in-Ok.entry ∷ [] =
    ap (map entry_view) c.in_ok-push-in-Ok.ensures.items ∙ map_push entry_view old c.in-Ok.entry in
    let rest = ap length (take_rest text start) in
    let within = c.word_len.ensures.within in
    record {
      near = omega (arith, length-drop start text, rest, within);
      read = ap (λ es. joined es (read_in (words_from text (start + n + 1)))) grown
          ∙ one_more (words_from text start) (slice_range text start (start + n)) (words_from text (start + n + 1)) (map entry_view old) (entry_view c.in-Ok.entry) (path_in text) words
          c.in-Ok.ensures c.loop-start.invariant.read;
    }

pub returns : goal.returns
returns c = all_read c.args.text.now c.loop-start.start (map entry_view c.loop-start.entries.items) (path_in c.args.text.now) c.loop-start-test.false c.loop-start.invariant.read
