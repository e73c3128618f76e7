use Rattle.std.proofs.Common.{length, map, ◌∙◌, ap, sym, arith}
use Rattle.std.proofs.lemmas.List.{take_rest, length-drop}
use Rattle.input_texts.specs.curve_script.Lexing.{view}
use Rattle.input_texts.proofs.curve_script.LexSteps.{word_step, blank_step, sign_step, push_told}
use Rattle.input_texts.proofs.curve_script.token.tokens_of.Goals as goal

pub loop-at-smaller-in-InWord : goal.loop-at-smaller-in-InWord
loop-at-smaller-in-InWord c = let facts = word_step c.args.line.now _ c.loop-at.at c.word_len.result (map view c.loop-at.tokens.items) c.loop-at-test.true c.loop-at.invariant.same
    (sym c.class_of.ensures ∙ c.in-InWord.is) (take_rest c.args.line.now c.loop-at.at) c.word_len.ensures.word c.word_len.ensures.end in
    let some = facts.0 in
    omega arith

pub loop-at-preserved-in-InWord : goal.loop-at-preserved-in-InWord
loop-at-preserved-in-InWord c =
    let facts = word_step c.args.line.now _ c.loop-at.at c.word_len.result (map view c.loop-at.tokens.items) c.loop-at-test.true c.loop-at.invariant.same
    (sym c.class_of.ensures ∙ c.in-InWord.is) (take_rest c.args.line.now c.loop-at.at) c.word_len.ensures.word c.word_len.ensures.end in
    let rest = ap length (take_rest c.args.line.now c.loop-at.at) in
    let within = c.word_len.ensures.within in
    record {
      within = omega (arith, length-drop c.loop-at.at c.args.line.now);
      same = push_told c.loop-at.tokens.items _ _ c.args.line.now _ c.in_ok-push-in-InWord.ensures.items facts.1;
    }

pub loop-at-preserved-in-Blank : goal.loop-at-preserved-in-Blank
loop-at-preserved-in-Blank c = record {
  within = omega arith;
  same = blank_step c.args.line.now c.loop-at.at _ c.loop-at-test.true c.loop-at.invariant.same (sym c.class_of.ensures ∙ c.in-Blank.is);
}

pub loop-at-preserved : goal.loop-at-preserved
loop-at-preserved c = record {
  within = omega arith;
  same = push_told c.loop-at.tokens.items _ _ c.args.line.now _ c.in_ok-push-in-SignOf.ensures.items
      (sign_step c.args.line.now c.loop-at.at (map view c.loop-at.tokens.items) c.loop-at-test.true c.loop-at.invariant.same c.in-SignOf.sign (sym c.class_of.ensures ∙ c.in-SignOf.is));
}
