-- Names of ports and links. Own choice.
use Rattle.std.specs.Prelude.{ℕ, List, length, Bool, nat_le, ◌&&◌, ◌||◌, ◌==◌}
use Rattle.std.specs.List.{list_all}
use Rattle.std.specs.Char.{is_ascii_alphanumeric}

-- a letter, a digit, `_` or `-`
unfoldable pub is_name_byte : ℕ → Bool
is_name_byte c = is_ascii_alphanumeric c || (c == 95) || (c == 45)

-- 1 to 32 of these
abbrev pub is_name : List ℕ → Bool
is_name name = nat_le 1 (length name) && (nat_le (length name) 32 && list_all is_name_byte name)
