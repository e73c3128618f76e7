-- Paths of an edit list: entries with single spaces between them. An entry is a server's name, or a name, `:` and the
-- digits of a queue, as in a file of a network. Own choice.
use Rattle.std.specs.Prelude.{ℕ, ◌+◌, ◌-◌, ◌^◌, min, ◌==◌, ◌&&◌, Bool, true, false, nat_le, if◌then◌else◌}
use Rattle.std.specs.Prelude.{List, [], ◌∷◌, length, map, drop, Option, Some, None, option_map, string_bytes}
use Rattle.std.specs.List.{list_all, position}
use Rattle.std.specs.Str.Parse.{digits_value}
use Rattle.fraction128.specs.Text.{is_numeral, before_at}
use Rattle.net_model.specs.declared.edit.PathEntry.{PathEntry}
use Rattle.net_model.specs.Names.{is_name_byte, is_colon}

-- 1 to 32 letters, digits, `_` and `-`
abbrev pub is_name : List ℕ → Bool
is_name name = list_all is_name_byte name && (nat_le 1 (length name) && nat_le (length name) 32)

-- a name and a queue: a number above 2^32 - 1 counts as 2^32 - 1, which is a queue that no server has
pub record EntryText : Type 0 where
  pub server : List ℕ
  pub queue : ℕ

abbrev pub entry_view : PathEntry → EntryText
entry_view entry = record { server = string_bytes entry.server; queue = entry.queue }

-- the bytes after the first colon; the digit 0 where there is none
abbrev pub digits_after : Option ℕ → List ℕ → List ℕ
digits_after None word = 48 ∷ []
digits_after (Some at) word = drop (at + 1) word

abbrev pub entry_of : (name digits : List ℕ) → Option EntryText
entry_of name digits =
    if is_name name && is_numeral digits
    then Some (record { server = name; queue = min (digits_value 10 digits) (2 ^ 32 - 1) })
    else None

abbrev pub entry_in : List ℕ → Option EntryText
entry_in word = entry_of (before_at (position is_colon word) word) (digits_after (position is_colon word) word)

-- ---- all entries
abbrev pub word_with : Bool → ℕ → List (List ℕ) → List (List ℕ)
word_with true b words = [] ∷ words
word_with false b [] = (b ∷ []) ∷ []
word_with false b (word ∷ words) = (b ∷ word) ∷ words

-- what stands between single spaces
unfoldable pub words_of : List ℕ → List (List ℕ)
words_of [] = [] ∷ []
words_of (b ∷ bs) = word_with (b == 32) b (words_of bs)

-- all of them, where each is there
unfoldable pub all_of : List (Option EntryText) → Option (List EntryText)
all_of [] = Some []
all_of (None ∷ os) = None
all_of (Some entry ∷ os) = option_map (λ entries. entry ∷ entries) (all_of os)

abbrev pub path_in : List ℕ → Option (List EntryText)
path_in text = all_of (map entry_in (words_of text))
