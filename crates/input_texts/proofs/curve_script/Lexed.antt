-- The function that cuts a line finds its tokens, and no line says two things.
use Rattle.std.proofs.Math.Dec.{T}
use Rattle.std.proofs.Common.{eqb→eq, subst, ◌≡◌, ℕ, List, [], ◌∷◌, ◌++◌, Option, Some, None, Bool, true, false, refl, sym, ap, ◌∙◌}
use Rattle.std.specs.Prelude.{option_map, ◌==◌, if◌then◌else◌}
use Rattle.std.specs.List.{list_all}
use Rattle.input_texts.specs.declared.curve_script.token.Sign.{Sign}
use Rattle.input_texts.specs.declared.curve_script.token.Sign.TheVariants.{Open, Close, Comma, Equals}
use Rattle.input_texts.specs.declared.curve_script.token.ByteClass.{ByteClass}
use Rattle.input_texts.specs.declared.curve_script.token.ByteClass.TheVariants.{InWord, Blank, SignOf, Foreign}
use Rattle.input_texts.specs.curve_script.Tokens.{Token, Word, Mark, is_letter, is_digit, is_word_byte, sign_byte, starts_word, Says, nothing, space, sign, word}
use Rattle.input_texts.specs.curve_script.Lexing.{class_of, joined, with_byte, lex}
use Rattle.std.proofs.lemmas.Bool.{and_parts}

pub class-word : (b : ℕ) → is_word_byte b ≡ true → class_of b ≡ InWord
unfolding class_of
class-word b e = rw e refl

pub class-sign : (s : Sign) → class_of (sign_byte s) ≡ SignOf s
unfolding class_of is_word_byte is_letter is_digit
class-sign Open = refl
class-sign Close = refl
class-sign Comma = refl
class-sign Equals = refl

pub class-space : class_of 32 ≡ Blank
unfolding class_of is_word_byte is_letter is_digit
class-space = refl

sign_ends : (s : Sign) → is_word_byte (sign_byte s) ≡ false
unfolding is_word_byte is_letter is_digit
sign_ends Open = refl
sign_ends Close = refl
sign_ends Comma = refl
sign_ends Equals = refl

space_ends : is_word_byte 32 ≡ false
unfolding is_word_byte is_letter is_digit
space_ends = refl

-- the tokens of a word and what follows it
pub lex-word : (b : ℕ) (bs rest : List ℕ) → list_all is_word_byte (b ∷ bs) ≡ true → starts_word rest ≡ false
    → lex (b ∷ (bs ++ rest)) ≡ option_map (λ tokens. Word (b ∷ bs) ∷ tokens) (lex rest)
lex-word b [] rest e f =
    let here : class_of b ≡ InWord = class-word b (and_parts (is_word_byte b) true e).0 in
    rw here (rw f (go (lex rest)))
  where
    go : (o : Option (List Token)) → with_byte InWord b false o ≡ option_map (λ tokens. Word (b ∷ []) ∷ tokens) o
    go None = refl
    go (Some tokens) = refl
lex-word b (c ∷ bs) rest e f =
    let here : class_of b ≡ InWord = class-word b (and_parts (is_word_byte b) (list_all is_word_byte (c ∷ bs)) e).0 in
    let more : list_all is_word_byte (c ∷ bs) ≡ true = (and_parts (is_word_byte b) (list_all is_word_byte (c ∷ bs)) e).1 in
    let next : is_word_byte c ≡ true = (and_parts (is_word_byte c) (list_all is_word_byte bs) more).0 in
    let later = lex-word c bs rest more f in
    ap (λ k. with_byte k b (is_word_byte c) (lex (c ∷ (bs ++ rest)))) here
    ∙ ap (λ k. with_byte InWord b k (lex (c ∷ (bs ++ rest)))) next
    ∙ ap (with_byte InWord b true) later
    ∙ go (lex rest)
  where
    go : (o : Option (List Token)) → with_byte InWord b true (option_map (λ tokens. Word (c ∷ bs) ∷ tokens) o) ≡ option_map (λ tokens. Word (b ∷ c ∷ bs) ∷ tokens) o
    go None = refl
    go (Some tokens) = refl

-- what a line says is found
pub lex_complete : {line : List ℕ} {tokens : List Token} → Says line tokens → lex line ≡ Some tokens
lex_complete nothing = refl
lex_complete (space {line = line} {tokens = tokens} r) = ap (λ k. with_byte k 32 (starts_word line) (lex line)) class-space ∙ lex_complete r
lex_complete (sign {line = line} {tokens = tokens} s r) =
    ap (λ k. with_byte k (sign_byte s) (starts_word line) (lex line)) (class-sign s)
    ∙ ap (with_byte (SignOf s) (sign_byte s) (starts_word line)) (lex_complete r)
lex_complete (word {line = line} {tokens = tokens} b bs e f r) =
    lex-word b bs line e f ∙ ap (option_map (λ rest. Word (b ∷ bs) ∷ rest)) (lex_complete r)

-- a byte of a word before what a line says
says_joined : (b : ℕ) → is_word_byte b ≡ true → {line : List ℕ} {tokens : List Token} → Says line tokens → Says (b ∷ line) (joined b (starts_word line) tokens)
says_joined b e nothing = word b [] (rw e refl) refl nothing
says_joined b e (space {line = line} {tokens = tokens} r) =
    subst (λ k. Says (b ∷ 32 ∷ line) (joined b k tokens)) (sym space_ends) (word b [] (rw e refl) space_ends (space r))
says_joined b e (sign {line = line} {tokens = tokens} s r) =
    subst (λ k. Says (b ∷ sign_byte s ∷ line) (joined b k (Mark s ∷ tokens))) (sym (sign_ends s)) (word b [] (rw e refl) (sign_ends s) (sign s r))
says_joined b e (word {line = line} {tokens = tokens} c bs all f r) =
    let next : is_word_byte c ≡ true = (and_parts (is_word_byte c) (list_all is_word_byte bs) all).0 in
    subst (λ k. Says (b ∷ c ∷ (bs ++ line)) (joined b k (Word (c ∷ bs) ∷ tokens))) (sym next) (word b (c ∷ bs) (rw e all) f r)

-- what a byte may be
class_facts : ByteClass → ℕ → Type 0
class_facts InWord b = is_word_byte b ≡ true
class_facts Blank b = b ≡ 32
class_facts (SignOf s) b = b ≡ sign_byte s
class_facts Foreign b = Unit {0}

class_holds : (b : ℕ) → class_facts (class_of b) b
unfolding class_of class_facts
class_holds b = go (is_word_byte b) refl (b == 32) (λ h. eqb→eq b 32 (subst T (sym h) tt)) (b == 40) (λ h. eqb→eq b 40 (subst T (sym h) tt)) (b == 41) (λ h. eqb→eq b 41 (subst T (sym h) tt)) (b == 44) (λ h. eqb→eq b 44 (subst T (sym h) tt)) (b == 61) (λ h. eqb→eq b 61 (subst T (sym h) tt))
  where
    go : (w : Bool) → is_word_byte b ≡ w → (k : Bool) → (k ≡ true → b ≡ 32) → (o : Bool) → (o ≡ true → b ≡ 40) → (c : Bool) → (c ≡ true → b ≡ 41) → (m : Bool) → (m ≡ true → b ≡ 44) → (q : Bool) → (q ≡ true → b ≡ 61)
        → class_facts (if w then InWord else if k then Blank else if o then SignOf Open else if c then SignOf Close else if m then SignOf Comma else if q then SignOf Equals else Foreign) b
    go true e k hk o ho c hc m hm q hq = e
    go false e true hk o ho c hc m hm q hq = hk refl
    go false e false hk true ho c hc m hm q hq = ho refl
    go false e false hk false ho true hc m hm q hq = hc refl
    go false e false hk false ho false hc true hm q hq = hm refl
    go false e false hk false ho false hc false hm true hq = hq refl
    go false e false hk false ho false hc false hm false hq = tt

pub class_word_only : (b : ℕ) → class_of b ≡ InWord → is_word_byte b ≡ true
unfolding class_facts
class_word_only b e = subst (λ k. class_facts k b) e (class_holds b)

-- what is found is said
pub lex_sound : (line : List ℕ) (tokens : List Token) → lex line ≡ Some tokens → Says line tokens
unfolding class_facts
lex_sound [] tokens e = let same : [] ≡ tokens = cc in subst (λ ts. Says [] ts) same nothing
lex_sound (b ∷ bs) tokens e = go (class_of b) (class_holds b) (lex bs) (lex_sound bs) e
  where
    go : (k : ByteClass) → class_facts k b → (o : Option (List Token)) → ((ts : List Token) → o ≡ Some ts → Says bs ts)
        → with_byte k b (starts_word bs) o ≡ Some tokens → Says (b ∷ bs) tokens
    go InWord h None ih f = absurd cc
    go InWord h (Some ts) ih f =
        let same : joined b (starts_word bs) ts ≡ tokens = cc in
        subst (λ l. Says (b ∷ bs) l) same (says_joined b h (ih ts refl))
    go Blank h o ih f = subst (λ x. Says (x ∷ bs) tokens) (sym h) (space (ih tokens f))
    go (SignOf s) h None ih f = absurd cc
    go (SignOf s) h (Some ts) ih f =
        let same : Mark s ∷ ts ≡ tokens = cc in
        subst (λ l. Says (b ∷ bs) l) same (subst (λ x. Says (x ∷ bs) (Mark s ∷ ts)) (sym h) (sign s (ih ts refl)))
    go Foreign h o ih f = absurd cc

-- no line says two things
pub says_one : {line : List ℕ} {a b : List Token} → Says line a → Says line b → a ≡ b
says_one {line} {a} {b} p q = let both : Some a ≡ Some b = sym (lex_complete p) ∙ lex_complete q in cc

-- what is not found is not said
pub lex_none : (line : List ℕ) → lex line ≡ None → (tokens : List Token) → Says line tokens → ⊥
lex_none line e tokens r = let bad : None ≡ Some tokens = sym e ∙ lex_complete r in cc
