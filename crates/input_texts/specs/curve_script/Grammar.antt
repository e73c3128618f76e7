-- What a statement is spelt like. Numbers are of any type: in a draft they are words as they stand. (Own choice.)
use Rattle.std.specs.Prelude.{◌≡◌, ◌≢◌, ℕ, suc, ◌<◌, ◌≤◌, max, List, [], ◌∷◌, ◌++◌, length, Option, Some, None, Bool, ◌||◌, ◌==◌, true, option_map, Result, Ok, Err}
use Rattle.std.specs.List.{list_all}
use Rattle.rational.specs.Rational.{ℚ}
use Rattle.fraction128.specs.Text.{parse_of}
use Rattle.fraction128.specs.declared.fault.FracText.{FracText}
use Rattle.input_texts.specs.declared.curve_script.token.Sign.TheVariants.{Open, Close, Comma, Equals}
use Rattle.input_texts.specs.declared.curve_script.keyword.Keyword.{Keyword}
use Rattle.input_texts.specs.declared.curve_script.keyword.Keyword.TheVariants.{Let, At, Value, AskOne, AskTwo, Zero, TwoNumbers, ThreeNumbers, OneCurve, CurveAndNumber, TwoCurves}
use Rattle.input_texts.specs.declared.curve_script.keyword.OneAsked.{OneAsked}
use Rattle.input_texts.specs.declared.curve_script.keyword.TwoAsked.{TwoAsked}
use Rattle.input_texts.specs.declared.curve_script.keyword.NumberPair.{NumberPair}
use Rattle.input_texts.specs.declared.curve_script.keyword.NumberTriple.{NumberTriple}
use Rattle.input_texts.specs.declared.curve_script.keyword.CurveOperator.{CurveOperator}
use Rattle.input_texts.specs.declared.curve_script.keyword.NumberOperator.{NumberOperator}
use Rattle.input_texts.specs.declared.curve_script.keyword.PairOperator.{PairOperator}
use Rattle.input_texts.specs.curve_script.Keywords.{spelling}
use Rattle.input_texts.specs.curve_script.Tokens.{Token, Word, Mark, is_letter, is_digit}

pub data Expression (N : Type 0) : Type 0 where
  Named : List ℕ → Expression N
  Nought : Expression N
  OfPair : NumberPair → N → N → Expression N
  OfTriple : NumberTriple → N → N → N → Expression N
  OnCurve : CurveOperator → Expression N → Expression N
  OnNumber : NumberOperator → Expression N → N → Expression N
  OnTwo : PairOperator → Expression N → Expression N → Expression N

pub data Statement (N : Type 0) : Type 0 where
  Lets : List ℕ → Expression N → Statement N
  ValueAt : Expression N → N → Statement N
  AsksOne : OneAsked → Expression N → Statement N
  AsksTwo : TwoAsked → Expression N → Expression N → Statement N

-- ---- spelling
abbrev pub key : Keyword → Token
key k = Word (spelling k)

abbrev pub expression_tokens : Expression (List ℕ) → List Token
expression_tokens (Named w) = Word w ∷ []
expression_tokens Nought = key Zero ∷ []
expression_tokens (OfPair k x y) = key (TwoNumbers k) ∷ Mark Open ∷ Word x ∷ Mark Comma ∷ Word y ∷ Mark Close ∷ []
expression_tokens (OfTriple k x y z) =
    key (ThreeNumbers k) ∷ Mark Open ∷ Word x ∷ Mark Comma ∷ Word y ∷ Mark Comma ∷ Word z ∷ Mark Close ∷ []
expression_tokens (OnCurve k e) = key (OneCurve k) ∷ Mark Open ∷ (expression_tokens e ++ Mark Close ∷ [])
expression_tokens (OnNumber k e x) = key (CurveAndNumber k) ∷ Mark Open ∷
    (expression_tokens e ++ Mark Comma ∷ Word x ∷ Mark Close ∷ [])
expression_tokens (OnTwo k a b) =
    key (TwoCurves k) ∷ Mark Open ∷ (expression_tokens a ++ Mark Comma ∷ (expression_tokens b ++ Mark Close ∷ []))

abbrev pub statement_tokens : Statement (List ℕ) → List Token
statement_tokens (Lets w e) = key Let ∷ Word w ∷ Mark Equals ∷ expression_tokens e
statement_tokens (ValueAt e x) = key Value ∷ (expression_tokens e ++ key At ∷ Word x ∷ [])
statement_tokens (AsksOne q e) = key (AskOne q) ∷ expression_tokens e
statement_tokens (AsksTwo q a b) = key (AskTwo q) ∷ (expression_tokens a ++ Mark Comma ∷ expression_tokens b)

-- ---- names
-- a letter, a digit, `_` or `-`
unfoldable pub is_name_byte : ℕ → Bool
is_name_byte c = is_letter c || is_digit c || (c == 95) || (c == 45)

abbrev pub BeginsWithLetter : List ℕ → Type 0
BeginsWithLetter [] = Unit {0}
BeginsWithLetter (b ∷ bs) = is_letter b ≡ true

-- 1 to 32 of these, a letter first, and no keyword
pub record IsName (w : List ℕ) : Type 0 where
  pub some : 0 < length w
  pub few : length w ≤ 32
  pub begins : BeginsWithLetter w
  pub bytes : list_all is_name_byte w ≡ true
  pub free : (k : Keyword) → spelling k ≢ w

abbrev pub HasNames : {N : Type 0} → Expression N → Type 0
HasNames (Named w) = IsName w
HasNames Nought = Unit {0}
HasNames (OfPair k x y) = Unit {0}
HasNames (OfTriple k x y z) = Unit {0}
HasNames (OnCurve k e) = HasNames e
HasNames (OnNumber k e x) = HasNames e
HasNames (OnTwo k a b) = HasNames a × HasNames b

abbrev pub HasNamesIn : {N : Type 0} → Statement N → Type 0
HasNamesIn (Lets w e) = IsName w × HasNames e
HasNamesIn (ValueAt e x) = HasNames e
HasNamesIn (AsksOne q e) = HasNames e
HasNamesIn (AsksTwo q a b) = HasNames a × HasNames b

-- ---- how deep the parentheses nest
abbrev pub depth : {N : Type 0} → Expression N → ℕ
depth (Named w) = 0
depth Nought = 0
depth (OfPair k x y) = 1
depth (OfTriple k x y z) = 1
depth (OnCurve k e) = suc (depth e)
depth (OnNumber k e x) = suc (depth e)
depth (OnTwo k a b) = suc (max (depth a) (depth b))

abbrev pub depth_in : {N : Type 0} → Statement N → ℕ
depth_in (Lets w e) = depth e
depth_in (ValueAt e x) = depth e
depth_in (AsksOne q e) = depth e
depth_in (AsksTwo q a b) = max (depth a) (depth b)

-- ---- the numbers
-- the number that a word writes
abbrev pub number_of : Result ℚ FracText → Option ℚ
number_of (Ok x) = Some x
number_of (Err e) = None

unfoldable pub number_in : List ℕ → Option ℚ
number_in w = number_of (parse_of w)

abbrev pub both : {A B C : Type 0} → (A → B → C) → Option A → Option B → Option C
both f None o = None
both f (Some a) None = None
both f (Some a) (Some b) = Some (f a b)

-- with each number read; none where a word that stands for a number is not the text of one
abbrev pub numbers_read : Expression (List ℕ) → Option (Expression ℚ)
numbers_read (Named w) = Some (Named w)
numbers_read Nought = Some Nought
numbers_read (OfPair k x y) = both (λ p q. OfPair k p q) (number_in x) (number_in y)
numbers_read (OfTriple k x y z) = both
    (λ (p : ℚ × ℚ) r. OfTriple k p.0 p.1 r) (both (λ p q. (p, q)) (number_in x) (number_in y)) (number_in z)
numbers_read (OnCurve k e) = option_map (λ f. OnCurve k f) (numbers_read e)
numbers_read (OnNumber k e x) = both (λ f p. OnNumber k f p) (numbers_read e) (number_in x)
numbers_read (OnTwo k a b) = both (λ f g. OnTwo k f g) (numbers_read a) (numbers_read b)

abbrev pub numbers_read_in : Statement (List ℕ) → Option (Statement ℚ)
numbers_read_in (Lets w e) = option_map (λ f. Lets w f) (numbers_read e)
numbers_read_in (ValueAt e x) = both (λ f p. ValueAt f p) (numbers_read e) (number_in x)
numbers_read_in (AsksOne q e) = option_map (λ f. AsksOne q f) (numbers_read e)
numbers_read_in (AsksTwo q a b) = both (λ f g. AsksTwo q f g) (numbers_read a) (numbers_read b)
