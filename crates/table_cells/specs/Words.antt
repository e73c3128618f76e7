-- The words of a cell: what stands between blanks. Own choice.
use Rattle.std.specs.Prelude.{ℕ, List, [], ◌∷◌, ◌++◌, if◌then◌else◌}
use Rattle.std.specs.Char.{is_ascii_whitespace}

-- a word that has ended, before the words behind it; no bytes are none
abbrev pub ended : List ℕ → List (List ℕ) → List (List ℕ)
ended [] words = words
ended (b ∷ bs) words = (b ∷ bs) ∷ words

-- the words of what is left of a text, of which some bytes of a word stand before that
unfoldable pub words_from : List ℕ → List ℕ → List (List ℕ)
words_from word [] = ended word []
words_from word (b ∷ rest) =
    if is_ascii_whitespace b then ended word (words_from [] rest) else words_from (word ++ b ∷ []) rest

abbrev pub words_of : List ℕ → List (List ℕ)
words_of text = words_from [] text
