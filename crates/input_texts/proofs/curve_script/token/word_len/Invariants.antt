use Rattle.std.proofs.Common.{◌≡◌, take, true}
use Rattle.std.specs.List.{list_all}
use Rattle.input_texts.specs.curve_script.Tokens.{is_word_byte}
use Rattle.input_texts.proofs.curve_script.token.word_len.Given as goal

abbrev pub invariant-loop-i : goal.invariant-loop-i
invariant-loop-i l = list_all is_word_byte (take l.i l.text) ≡ true
