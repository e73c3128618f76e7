-- One step of trying tokens against the grammar.
use Rattle.std.proofs.Common.{◌≡◌, ℕ, ◌+◌, ◌<◌, List, [], ◌∷◌, ◌++◌, length, drop, get_or, map, reverse, Some, None, Bool, refl, sym, ap, ◌∙◌, arith}
use Rattle.std.specs.Prelude.{is_some, is_ok, ◌&&◌, Result, Ok, Err}
use Rattle.std.proofs.lemmas.List.{reverse-append, length-reverse, drop_more, drop-map}
use Rattle.rational.specs.Rational.{ℚ}
use Rattle.fraction128.specs.declared.fault.FracText.{FracText}
use Rattle.input_texts.specs.declared.curve_script.shape.Symbol.{Symbol}
use Rattle.input_texts.specs.declared.curve_script.token.Token.{Token as CodeToken}
use Rattle.input_texts.specs.declared.curve_script.token.Token.TheVariants.{Word as CodeWord}
use Rattle.input_texts.specs.curve_script.Grammar.{number_of}
use Rattle.input_texts.specs.curve_script.Lexing.{view}
use Rattle.input_texts.specs.curve_script.Shapes.{after, is_number_there, goes_on, run}

pub is_some_number : (r : Result ℚ FracText) → is_some (number_of r) ≡ is_ok r
is_some_number (Ok x) = refl
is_some_number (Err e) = refl

pub reverse_pushed : (new old : List Symbol) (s : Symbol) → new ≡ old ++ s ∷ [] → reverse new ≡ s ∷ reverse old
reverse_pushed new old s e = ap reverse e ∙ reverse-append old (s ∷ [])

-- past the end
abbrev pub no_token : CodeToken
no_token = CodeWord (record { ref_ptr = (0, 0); now = [] })

-- the tokens from a place on
pub token_drop : (ts : List CodeToken) (i : ℕ) (d : CodeToken) → i < length ts → drop i (map view ts) ≡ view (get_or ts i d) ∷ drop (i + 1) (map view ts)
token_drop ts i d h = drop-map view i ts ∙ ap (map view) (drop_more ts i d h) ∙ ap (λ l. view (get_or ts i d) ∷ l) (sym (drop-map view (i + 1) ts))

-- a symbol and a token
pub run_more : (stack rest : List Symbol) (s : Symbol) (n : Bool) (ts : List CodeToken) (i : ℕ) (d : CodeToken) → stack ≡ rest ++ s ∷ [] → i < length ts
    → run (reverse stack) n (drop i (map view ts)) ≡ goes_on (after s (view (get_or ts i d))) (λ new. run (new ++ reverse rest) (n && is_number_there s (view (get_or ts i d))) (drop (i + 1) (map view ts)))
unfolding run
run_more stack rest s n ts i d e h = ap (λ l. run l n (drop i (map view ts))) (reverse_pushed stack rest s e) ∙ ap (run (s ∷ reverse rest) n) (token_drop ts i d h)

-- a token, and nothing to come
pub run_past : (stack : List Symbol) (n : Bool) (ts : List CodeToken) (i : ℕ) → stack ≡ [] → i < length ts → run (reverse stack) n (drop i (map view ts)) ≡ None
unfolding run
run_past stack n ts i e h = ap (λ l. run (reverse l) n (drop i (map view ts))) e ∙ ap (run [] n) (token_drop ts i no_token h)

-- no more tokens
pub run_end : (stack : List Symbol) (n : Bool) → stack ≡ [] → run (reverse stack) n [] ≡ Some n
unfolding run
run_end stack n e = ap (λ l. run (reverse l) n []) e

pub no_symbol : (stack : List Symbol) → length stack ≡ 0 → stack ≡ []
no_symbol [] h = refl
no_symbol (s ∷ stack) h = absurd (omega arith)

-- a symbol is left over
pub run_left : (stack : List Symbol) (n : Bool) → 0 < length stack → run (reverse stack) n [] ≡ None
unfolding run
run_left stack n h = go (reverse stack) (let e = length-reverse stack in omega arith)
  where
    go : (l : List Symbol) → 0 < length l → run l n [] ≡ None
    go [] h = absurd (omega arith)
    go (s ∷ l) h = refl

-- a token that is none of those
pub run_refused : (stack rest : List Symbol) (s : Symbol) (n : Bool) (ts : List CodeToken) (i : ℕ) (d : CodeToken) → stack ≡ rest ++ s ∷ [] → i < length ts
    → None ≡ after s (view (get_or ts i d)) → run (reverse stack) n (drop i (map view ts)) ≡ None
run_refused stack rest s n ts i d e h f =
    run_more stack rest s n ts i d e h
    ∙ ap (λ o. goes_on o (λ new. run (new ++ reverse rest) (n && is_number_there s (view (get_or ts i d))) (drop (i + 1) (map view ts)))) (sym f)

-- one that is
pub run_kept : (stack rest new behind : List Symbol) (s : Symbol) (n m : Bool) (ts : List CodeToken) (i : ℕ) (d : CodeToken) → stack ≡ rest ++ s ∷ [] → i < length ts
    → Some behind ≡ after s (view (get_or ts i d)) → reverse new ≡ behind ++ reverse rest → m ≡ (n && is_number_there s (view (get_or ts i d)))
    → run (reverse new) m (drop (i + 1) (map view ts)) ≡ run (reverse stack) n (drop i (map view ts))
run_kept stack rest new behind s n m ts i d e h f g k =
    ap (λ l. run l m (drop (i + 1) (map view ts))) g
    ∙ ap (λ b. run (behind ++ reverse rest) b (drop (i + 1) (map view ts))) k
    ∙ ap (λ o. goes_on o (λ new. run (new ++ reverse rest) (n && is_number_there s (view (get_or ts i d))) (drop (i + 1) (map view ts)))) f
    ∙ sym (run_more stack rest s n ts i d e h)
