-- Bytes that may stand in a field of a table or a line of a script. (Own choice.)
use Rattle.std.specs.Prelude.{ℕ, List, Bool, ◌&&◌, nat_le}
use Rattle.std.specs.List.{list_all}

-- a space or a visible character of ASCII
unfoldable pub is_plain_byte : ℕ → Bool
is_plain_byte c = nat_le 32 c && nat_le c 126

-- each byte is
abbrev pub is_plain : List ℕ → Bool
is_plain = list_all is_plain_byte
