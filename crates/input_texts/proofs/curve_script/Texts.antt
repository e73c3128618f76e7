-- A name is text.
use Rattle.std.proofs.Common.{◌≡◌, ℕ, ◌<◌, List, length, true, arith}
use Rattle.std.specs.Prelude.{◌&&◌, nat_le}
use Rattle.std.specs.List.{list_all}
use Rattle.std.specs.Str.{IsUtf8}
use Rattle.std.proofs.lemmas.Bool.Decides.{nat_tests}
use Rattle.input_texts.specs.curve_script.Tokens.{is_letter, is_digit}
use Rattle.input_texts.specs.curve_script.Grammar.{is_name_byte}
use Rattle.input_texts.specs.curve_script.Shapes.{is_name_text, begins_with_letter}
use Rattle.input_texts.proofs.table_text.PlainTexts.{passed_is_text}
use Rattle.std.proofs.lemmas.Bool.{and_parts}

small_byte : (b : ℕ) → is_name_byte b ≡ true → b < 128
unfolding is_name_byte is_letter is_digit
small_byte b h = grind (arith, nat_tests)

pub name_is_utf8 : (w : List ℕ) → is_name_text w ≡ true → IsUtf8 w
name_is_utf8 w h = passed_is_text is_name_byte small_byte w (and_parts (begins_with_letter w && nat_le (length w) 32) (list_all is_name_byte w) h).1
