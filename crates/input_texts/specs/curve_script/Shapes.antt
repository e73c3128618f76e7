-- How a line's tokens are tried against the grammar: by a list of what is still to come. `Grammar` says what they
-- have to be.
use Rattle.std.specs.Prelude.{ℕ, List, [], ◌∷◌, ◌++◌, length, Option, Some, None, Bool, true, false, ◌&&◌, nat_le, is_some}
use Rattle.std.specs.List.{list_all}
use Rattle.input_texts.specs.declared.curve_script.token.Sign.{Sign}
use Rattle.input_texts.specs.declared.curve_script.token.Sign.TheVariants as signs
use Rattle.input_texts.specs.declared.curve_script.shape.Symbol.{Symbol}
use Rattle.input_texts.specs.declared.curve_script.shape.Symbol.TheVariants.{Statement, Curve, Number, Name, At, Sign as Signed}
use Rattle.input_texts.specs.declared.curve_script.keyword.Keyword.{Keyword}
use Rattle.input_texts.specs.declared.curve_script.keyword.Keyword.TheVariants as words
use Rattle.input_texts.specs.curve_script.Tokens.{Token, Word, Mark, is_letter}
use Rattle.input_texts.specs.curve_script.Keywords.{keyword_of}
use Rattle.input_texts.specs.curve_script.Grammar.{is_name_byte, number_in}

abbrev pub begins_with_letter : List ℕ → Bool
begins_with_letter [] = false
begins_with_letter (b ∷ bs) = is_letter b

-- whether a word that is no keyword is a name
abbrev pub is_name_text : List ℕ → Bool
is_name_text w = begins_with_letter w && nat_le (length w) 32 && list_all is_name_byte w

-- what comes behind a keyword that begins an expression
abbrev pub behind_curve : Keyword → Option (List Symbol)
behind_curve words.Let = None
behind_curve words.At = None
behind_curve words.Value = None
behind_curve (words.AskOne q) = None
behind_curve (words.AskTwo q) = None
behind_curve words.Zero = Some []
behind_curve (words.TwoNumbers k) = Some
    (Signed signs.Open ∷ Number ∷ Signed signs.Comma ∷ Number ∷ Signed signs.Close ∷ [])
behind_curve (words.ThreeNumbers k) = Some
    (Signed signs.Open ∷ Number ∷ Signed signs.Comma ∷ Number ∷ Signed signs.Comma ∷ Number ∷ Signed signs.Close ∷ [])
behind_curve (words.OneCurve k) = Some (Signed signs.Open ∷ Curve ∷ Signed signs.Close ∷ [])
behind_curve (words.CurveAndNumber k) = Some
    (Signed signs.Open ∷ Curve ∷ Signed signs.Comma ∷ Number ∷ Signed signs.Close ∷ [])
behind_curve (words.TwoCurves k) = Some
    (Signed signs.Open ∷ Curve ∷ Signed signs.Comma ∷ Curve ∷ Signed signs.Close ∷ [])

-- and behind one that begins a statement
abbrev pub behind_statement : Keyword → Option (List Symbol)
behind_statement words.Let = Some (Name ∷ Signed signs.Equals ∷ Curve ∷ [])
behind_statement words.At = None
behind_statement words.Value = Some (Curve ∷ At ∷ Number ∷ [])
behind_statement (words.AskOne q) = Some (Curve ∷ [])
behind_statement (words.AskTwo q) = Some (Curve ∷ Signed signs.Comma ∷ Curve ∷ [])
behind_statement words.Zero = None
behind_statement (words.TwoNumbers k) = None
behind_statement (words.ThreeNumbers k) = None
behind_statement (words.OneCurve k) = None
behind_statement (words.CurveAndNumber k) = None
behind_statement (words.TwoCurves k) = None

abbrev pub when : Bool → Option (List Symbol)
when true = Some []
when false = None

abbrev pub statement_word : Option Keyword → Option (List Symbol)
statement_word None = None
statement_word (Some k) = behind_statement k

abbrev pub curve_word : Option Keyword → List ℕ → Option (List Symbol)
curve_word None w = when (is_name_text w)
curve_word (Some k) w = behind_curve k

abbrev pub name_word : Option Keyword → List ℕ → Option (List Symbol)
name_word None w = when (is_name_text w)
name_word (Some k) w = None

abbrev pub is_at : Option Keyword → Bool
is_at None = false
is_at (Some words.At) = true
is_at (Some k) = false

abbrev pub same_sign : Sign → Sign → Bool
same_sign signs.Open signs.Open = true
same_sign signs.Close signs.Close = true
same_sign signs.Comma signs.Comma = true
same_sign signs.Equals signs.Equals = true
same_sign s t = false

-- what is to come after a token, in place of the symbol that was to come
abbrev pub after : Symbol → Token → Option (List Symbol)
after Statement (Word w) = statement_word (keyword_of w)
after Statement (Mark t) = None
after Curve (Word w) = curve_word (keyword_of w) w
after Curve (Mark t) = None
after Number (Word w) = Some []
after Number (Mark t) = None
after Name (Word w) = name_word (keyword_of w) w
after Name (Mark t) = None
after At (Word w) = when (is_at (keyword_of w))
after At (Mark t) = None
after (Signed s) (Word w) = None
after (Signed s) (Mark t) = when (same_sign s t)

-- whether a token writes a number, where one is to come
abbrev pub is_number_there : Symbol → Token → Bool
is_number_there Number (Word w) = is_some (number_in w)
is_number_there symbol token = true

abbrev pub goes_on : Option (List Symbol) → (List Symbol → Option Bool) → Option Bool
goes_on None go = None
goes_on (Some symbols) go = go symbols

-- whether each word for a number writes one, where the tokens are of these symbols
unfoldable pub run : List Symbol → Bool → List Token → Option Bool
run [] numbers [] = Some numbers
run [] numbers (t ∷ ts) = None
run (s ∷ ss) numbers [] = None
run (s ∷ ss) numbers (t ∷ ts) = goes_on (after s t) (λ symbols. run (symbols ++ ss) (numbers && is_number_there s t) ts)
