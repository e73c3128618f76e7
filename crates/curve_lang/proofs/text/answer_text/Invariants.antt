use Rattle.std.proofs.Common.{◌≡◌, ◌++◌, drop, map}
use Rattle.curve_lang.specs.Texts.{answers_text}
use Rattle.curve_lang.specs.Views.{answer_view}
use Rattle.curve_lang.proofs.text.answer_text.Given as goal

-- with the answers that are left it is the text of all
abbrev pub invariant-loop-answer : goal.invariant-loop-answer
invariant-loop-answer l = l.out.items ++ answers_text (map answer_view (drop l.answer-index l.answers)) ≡ answers_text (map answer_view l.answers)
