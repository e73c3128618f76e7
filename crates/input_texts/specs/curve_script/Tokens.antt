-- The words and signs of a line. (Own choice.)
use Rattle.std.specs.Prelude.{◌≡◌, ℕ, List, [], ◌∷◌, ◌++◌, Bool, true, false, nat_le, ◌&&◌, ◌||◌, ◌==◌}
use Rattle.std.specs.List.{list_all}
use Rattle.input_texts.specs.declared.curve_script.token.Sign.{Sign}
use Rattle.input_texts.specs.declared.curve_script.token.Sign.TheVariants.{Open, Close, Comma, Equals}

-- a word by its bytes, or a sign
pub data Token : Type 0 where
  Word : List ℕ → Token
  Mark : Sign → Token

unfoldable pub is_letter : ℕ → Bool
is_letter c = (nat_le 97 c && nat_le c 122) || (nat_le 65 c && nat_le c 90)

unfoldable pub is_digit : ℕ → Bool
is_digit c = nat_le 48 c && nat_le c 57

-- a letter, a digit, `_`, `-` or `/`
unfoldable pub is_word_byte : ℕ → Bool
is_word_byte c = is_letter c || is_digit c || (c == 95) || (c == 45) || (c == 47)

abbrev pub sign_byte : Sign → ℕ
sign_byte Open = 40
sign_byte Close = 41
sign_byte Comma = 44
sign_byte Equals = 61

-- whether a byte of a word comes next
abbrev pub starts_word : List ℕ → Bool
starts_word [] = false
starts_word (b ∷ bs) = is_word_byte b

-- What a line's bytes say. Spaces may stand anywhere between tokens. A word has a byte or more, and is a longest
-- run of its bytes, so between two words there is a space at least.
pub data Says : List ℕ → List Token → Type 0 where
  nothing : Says [] []
  space : {line : List ℕ} {tokens : List Token} → Says line tokens → Says (32 ∷ line) tokens
  sign : {line : List ℕ} {tokens : List Token} → (s : Sign) → Says line tokens
      → Says (sign_byte s ∷ line) (Mark s ∷ tokens)
  word : {line : List ℕ} {tokens : List Token} → (b : ℕ) (bs : List ℕ) → list_all is_word_byte (b ∷ bs) ≡ true
      → starts_word line ≡ false → Says line tokens → Says (b ∷ (bs ++ line)) (Word (b ∷ bs) ∷ tokens)
