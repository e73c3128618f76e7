-- How a statement is made of tokens. `Grammar` says what it has to be.
use Rattle.std.specs.Prelude.{◌≡◌, ℕ, zero, suc, List, [], ◌∷◌, Option, Some, None, Bool, true, false, option_map}
use Rattle.rational.specs.Rational.{ℚ}
use Rattle.input_texts.specs.declared.curve_script.token.Sign.{Sign}
use Rattle.input_texts.specs.declared.curve_script.token.Sign.TheVariants.{Open, Close, Comma, Equals}
use Rattle.input_texts.specs.declared.curve_script.keyword.Keyword.{Keyword}
use Rattle.input_texts.specs.declared.curve_script.keyword.Keyword.TheVariants.{Let, At, Value, AskOne, AskTwo, Zero, TwoNumbers, ThreeNumbers, OneCurve, CurveAndNumber, TwoCurves}
use Rattle.input_texts.specs.declared.curve_script.keyword.OneAsked.{OneAsked}
use Rattle.input_texts.specs.declared.curve_script.keyword.TwoAsked.{TwoAsked}
use Rattle.input_texts.specs.declared.curve_script.keyword.NumberPair.{NumberPair}
use Rattle.input_texts.specs.declared.curve_script.keyword.NumberTriple.{NumberTriple}
use Rattle.input_texts.specs.declared.curve_script.keyword.CurveOperator.{CurveOperator}
use Rattle.input_texts.specs.declared.curve_script.keyword.NumberOperator.{NumberOperator}
use Rattle.input_texts.specs.declared.curve_script.keyword.PairOperator.{PairOperator}
use Rattle.input_texts.specs.curve_script.Tokens.{Token, Word, Mark}
use Rattle.input_texts.specs.curve_script.Keywords.{keyword_of}
use Rattle.input_texts.specs.curve_script.Grammar.{Expression, Named, Nought, OfPair, OfTriple, OnCurve, OnNumber, OnTwo, Statement, Lets, ValueAt, AsksOne, AsksTwo, number_in}
use Rattle.input_texts.specs.curve_script.Shapes.{is_name_text, same_sign, is_at}

infixl 10 ◌>>=◌
abbrev pub ◌>>=◌ : {A B : Type 0} → Option A → (A → Option B) → Option B
None >>= f = None
(Some x) >>= f = f x

-- what was taken of some tokens, seen by a view, and the tokens that are left are as they are to be
abbrev pub IsTaken : {A B : Type 0} → (A → B) → List Token → Option (B × List Token) → Option A → Type 0
IsTaken {A} {B} view left wanted made = option_map {U = B × List Token} (λ a. (view a, left)) made ≡ wanted

-- an expression, and the tokens after it
abbrev pub Made : Type 0
Made = Expression ℚ × List Token

abbrev pub next_word : List Token → Option (List ℕ × List Token)
next_word [] = None
next_word (Word w ∷ ts) = Some (w, ts)
next_word (Mark s ∷ ts) = None

abbrev pub behind_if : Bool → List Token → Option (List Token)
behind_if true ts = Some ts
behind_if false ts = None

abbrev pub next_sign : Sign → List Token → Option (List Token)
next_sign s [] = None
next_sign s (Word w ∷ ts) = None
next_sign s (Mark t ∷ ts) = behind_if (same_sign s t) ts

abbrev pub with_rest : Option ℚ → List Token → Option (ℚ × List Token)
with_rest None ts = None
with_rest (Some x) ts = Some (x, ts)

unfoldable pub next_number : List Token → Option (ℚ × List Token)
next_number ts = next_word ts >>= (λ w. with_rest (number_in w.0) w.1)

-- a sign and a number
unfoldable pub number_behind : Sign → List Token → Option (ℚ × List Token)
number_behind s ts = next_sign s ts >>= next_number

unfoldable pub pair_from : NumberPair → List Token → Option Made
pair_from k ts = next_number ts >>= (λ x. number_behind Comma x.1 >>= (λ y. Some (OfPair k x.0 y.0, y.1)))

unfoldable pub triple_from : NumberTriple → List Token → Option Made
triple_from k ts = next_number ts >>=
    (λ x. number_behind Comma x.1 >>= (λ y. number_behind Comma y.1 >>= (λ z. Some (OfTriple k x.0 y.0 z.0, z.1))))

unfoldable pub one_from : (List Token → Option Made) → CurveOperator → List Token → Option Made
one_from inner k ts = inner ts >>= (λ e. Some (OnCurve k e.0, e.1))

unfoldable pub number_from : (List Token → Option Made) → NumberOperator → List Token → Option Made
number_from inner k ts = inner ts >>= (λ e. number_behind Comma e.1 >>= (λ x. Some (OnNumber k e.0 x.0, x.1)))

-- a comma and an expression
abbrev pub curve_behind : (List Token → Option Made) → List Token → Option Made
curve_behind inner ts = next_sign Comma ts >>= inner

unfoldable pub two_from : (List Token → Option Made) → PairOperator → List Token → Option Made
two_from inner k ts = inner ts >>= (λ a. curve_behind inner a.1 >>= (λ b. Some (OnTwo k a.0 b.0, b.1)))

-- what stands between the parentheses behind a keyword
abbrev pub inside_from : (List Token → Option Made) → Keyword → List Token → Option Made
inside_from inner Let ts = None
inside_from inner At ts = None
inside_from inner Value ts = None
inside_from inner (AskOne q) ts = None
inside_from inner (AskTwo q) ts = None
inside_from inner Zero ts = None
inside_from inner (TwoNumbers k) ts = pair_from k ts
inside_from inner (ThreeNumbers k) ts = triple_from k ts
inside_from inner (OneCurve k) ts = one_from inner k ts
inside_from inner (CurveAndNumber k) ts = number_from inner k ts
inside_from inner (TwoCurves k) ts = two_from inner k ts

unfoldable pub call_from : (List Token → Option Made) → Keyword → List Token → Option Made
call_from inner k ts = next_sign Open ts >>=
    (λ o. inside_from inner k o >>= (λ e. next_sign Close e.1 >>= (λ c. Some (e.0, c))))

abbrev pub name_if : Bool → List ℕ → Option (List ℕ)
name_if true w = Some w
name_if false w = None

abbrev pub is_zero : Keyword → Bool
is_zero Zero = true
is_zero Let = false
is_zero At = false
is_zero Value = false
is_zero (AskOne q) = false
is_zero (AskTwo q) = false
is_zero (TwoNumbers k) = false
is_zero (ThreeNumbers k) = false
is_zero (OneCurve k) = false
is_zero (CurveAndNumber k) = false
is_zero (TwoCurves k) = false

abbrev pub zero_or : Bool → List Token → Option Made → Option Made
zero_or true ts call = Some (Nought, ts)
zero_or false ts call = call

-- an expression by its first word
abbrev pub begin_with : (Keyword → List Token → Option Made) → Option Keyword → List ℕ → List Token → Option Made
begin_with call None w ts = option_map (λ n. (Named n, ts)) (name_if (is_name_text w) w)
begin_with call (Some k) w ts = zero_or (is_zero k) ts (call k ts)

abbrev pub no_call : Keyword → List Token → Option Made
no_call k ts = None

-- an expression whose parentheses nest at most n deep
unfoldable pub build : ℕ → List Token → Option Made
build zero ts = next_word ts >>= (λ w. begin_with no_call (keyword_of w.0) w.0 w.1)
build (suc n) ts = next_word ts >>= (λ w. begin_with (call_from (build n)) (keyword_of w.0) w.0 w.1)

-- a call within an expression whose parentheses nest at most n deep
abbrev pub calls : ℕ → Keyword → List Token → Option Made
calls zero k ts = None
calls (suc n) k ts = call_from (build n) k ts

-- ---- statements
-- a statement, and the tokens after it
abbrev pub Told : Type 0
Told = Statement ℚ × List Token

unfoldable pub next_at : List Token → Option (List Token)
next_at ts = next_word ts >>= (λ w. behind_if (is_at (keyword_of w.0)) w.1)

unfoldable pub let_from : ℕ → List Token → Option Told
let_from n ts = next_word ts >>=
    (λ w. name_if (is_name_text w.0) w.0 >>=
    (λ v. next_sign Equals w.1 >>= (λ e. build n e >>= (λ m. Some (Lets v m.0, m.1)))))

unfoldable pub value_from : ℕ → List Token → Option Told
value_from n ts = build n ts >>= (λ m. next_at m.1 >>= (λ a. next_number a >>= (λ x. Some (ValueAt m.0 x.0, x.1))))

unfoldable pub one_asked_from : ℕ → OneAsked → List Token → Option Told
one_asked_from n q ts = build n ts >>= (λ m. Some (AsksOne q m.0, m.1))

unfoldable pub two_asked_from : ℕ → TwoAsked → List Token → Option Told
two_asked_from n q ts = build n ts >>= (λ a. curve_behind (build n) a.1 >>= (λ b. Some (AsksTwo q a.0 b.0, b.1)))

abbrev pub statement_behind : ℕ → Keyword → List Token → Option Told
statement_behind n Let ts = let_from n ts
statement_behind n At ts = None
statement_behind n Value ts = value_from n ts
statement_behind n (AskOne q) ts = one_asked_from n q ts
statement_behind n (AskTwo q) ts = two_asked_from n q ts
statement_behind n Zero ts = None
statement_behind n (TwoNumbers k) ts = None
statement_behind n (ThreeNumbers k) ts = None
statement_behind n (OneCurve k) ts = None
statement_behind n (CurveAndNumber k) ts = None
statement_behind n (TwoCurves k) ts = None

-- a statement whose parentheses nest at most n deep
unfoldable pub statement_from : ℕ → List Token → Option Told
statement_from n ts = next_word ts >>= (λ w. keyword_of w.0 >>= (λ k. statement_behind n k w.1))
