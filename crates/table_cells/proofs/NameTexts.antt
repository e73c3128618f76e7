-- Names are text.
use Rattle.std.proofs.Common.{◌≡◌, ℕ, ◌<◌, ◌&&◌, nat_le, true, List, length, arith}
use Rattle.std.proofs.lemmas.Bool.Decides.{nat_tests}
use Rattle.std.proofs.lemmas.List.Elements.{All-weaker}
use Rattle.std.proofs.lemmas.List.Sums.{AllPass-from_list_all}
use Rattle.std.proofs.lemmas.Str.{IsUtf8-from_ascii}
use Rattle.std.proofs.lemmas.Str.Ascii.{IsAscii-from_all}
use Rattle.std.specs.List.{list_all}
use Rattle.std.specs.Str.{IsUtf8}
use Rattle.table_cells.specs.Names.{is_name, is_name_byte}
use Rattle.table_cells.proofs.Digits.{both}

below : (b : ℕ) → is_name_byte b ≡ true → b < 128
unfolding is_name_byte
below b h = grind (arith, nat_tests)

pub name_is_text : (name : List ℕ) → is_name name ≡ true → IsUtf8 name
name_is_text name h =
    let rest = (both (nat_le 1 (length name)) (nat_le (length name) 32 && list_all is_name_byte name) h).1 in
    let bytes = AllPass-from_list_all is_name_byte name (both (nat_le (length name) 32) (list_all is_name_byte name) rest).1 in
    IsUtf8-from_ascii name (IsAscii-from_all name (All-weaker (λ b. is_name_byte b ≡ true) (λ b. b < 128) below name bytes))
