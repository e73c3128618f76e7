-- How a line is cut into tokens: a function that finds them. `Tokens` says what it has to find.
use Rattle.std.specs.Prelude.{ℕ, List, [], ◌∷◌, Option, Some, None, Bool, true, false, ◌==◌, if◌then◌else◌}
use Rattle.input_texts.specs.declared.curve_script.token.Sign.TheVariants.{Open, Close, Comma, Equals}
use Rattle.input_texts.specs.declared.curve_script.token.ByteClass.{ByteClass}
use Rattle.input_texts.specs.declared.curve_script.token.ByteClass.TheVariants.{InWord, Blank, SignOf, Foreign}
use Rattle.input_texts.specs.declared.curve_script.token.Token.{Token as CodeToken}
use Rattle.input_texts.specs.declared.curve_script.token.Token.TheVariants.{Word as CodeWord, Mark as CodeMark}
use Rattle.input_texts.specs.curve_script.Tokens.{Token, Word, Mark, is_word_byte, starts_word}

unfoldable pub class_of : ℕ → ByteClass
class_of b =
    if is_word_byte b then InWord
    else if b == 32 then Blank
    else if b == 40 then SignOf Open
    else if b == 41 then SignOf Close
    else if b == 44 then SignOf Comma
    else if b == 61 then SignOf Equals
    else Foreign

-- a byte of a word, before a word or before another token
abbrev pub joined : ℕ → Bool → List Token → List Token
joined b true (Word w ∷ tokens) = Word (b ∷ w) ∷ tokens
joined b true (Mark s ∷ tokens) = Word (b ∷ []) ∷ Mark s ∷ tokens
joined b true [] = Word (b ∷ []) ∷ []
joined b false tokens = Word (b ∷ []) ∷ tokens

-- a byte, whether a word goes on behind it, and the tokens of the rest
abbrev pub with_byte : ByteClass → ℕ → Bool → Option (List Token) → Option (List Token)
with_byte InWord b within None = None
with_byte InWord b within (Some tokens) = Some (joined b within tokens)
with_byte Blank b within rest = rest
with_byte (SignOf s) b within None = None
with_byte (SignOf s) b within (Some tokens) = Some (Mark s ∷ tokens)
with_byte Foreign b within rest = None

-- the tokens, unless a byte is of none
abbrev pub lex : List ℕ → Option (List Token)
lex [] = Some []
lex (b ∷ bs) = with_byte (class_of b) b (starts_word bs) (lex bs)

-- a token apart from where it lies in memory
abbrev pub view : CodeToken → Token
view (CodeWord w) = Word w.now
view (CodeMark s) = Mark s
