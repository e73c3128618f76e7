-- The first `--json` among words.
use Rattle.std.proofs.Common.{◌≡◌, ◌≤◌, ◌<◌, ◌+◌, ℕ, suc, List, [], ◌∷◌, ◌++◌, length, take, drop, String, refl, sym, ap, ◌∙◌}
use Rattle.std.proofs.Common.{Bool, true, false, Option, Some, None, add-one, drop-cons}
use Rattle.std.specs.Prelude.{string_bytes, slice_index_or, option_map, if◌then◌else◌}
use Rattle.std.specs.declared.alloc.Global.{Global}
use Rattle.std.proofs.lemmas.List.{map-append, take-append-drop, take_more, take_all}
use Rattle.command_words.specs.Lines.{texts, is_json, without_json}

abbrev pub Words : Type 0
Words = List (String Global)

abbrev Texts : Type 0
Texts = List (List ℕ)

-- ---- the first one
same_rest : (o : Option Texts) → o ≡ option_map (λ rest. rest) o
same_rest None = refl
same_rest (Some rest) = refl

none_mapped : (word : List ℕ) (o : Option Texts) → option_map (λ rest. word ∷ rest) o ≡ None → o ≡ None
none_mapped word None e = refl
none_mapped word (Some rest) e = absurd (cc)

longer : (word : List ℕ) (words : Texts) (o : Option Texts)
    → option_map (λ rest. word ∷ rest) (option_map (λ rest. words ++ rest) o)
    ≡ option_map (λ rest. word ∷ (words ++ rest)) o
longer word words None = refl
longer word words (Some rest) = refl

one_before : (word : List ℕ) (words more : Texts) (is : Bool)
    → (without_json words ≡ None → without_json (words ++ more) ≡ option_map (λ rest. words ++ rest) (without_json more))
    → (if is then Some words else option_map (λ rest. word ∷ rest) (without_json words)) ≡ None
    → (if is then Some (words ++ more) else option_map (λ rest. word ∷ rest) (without_json (words ++ more)))
    ≡ option_map (λ rest. word ∷ (words ++ rest)) (without_json more)
one_before word words more true after e = absurd (cc)
one_before word words more false after e =
    ap (λ (o : Option Texts). option_map (λ rest. word ∷ rest) o) (after (none_mapped word (without_json words) e))
    ∙ longer word words (without_json more)

-- behind words of which none is `--json`
after_none : (words more : Texts) → without_json words ≡ None
    → without_json (words ++ more) ≡ option_map (λ rest. words ++ rest) (without_json more)
after_none [] more none = same_rest (without_json more)
after_none (word ∷ words) more none = one_before word words more (is_json word) (after_none words more) none

pub found_at : (words : Words) (i : ℕ) (word : String Global) → i < length words → word ≡ slice_index_or words i word
    → is_json (string_bytes word) ≡ true → without_json (texts (take i words)) ≡ None
    → without_json (texts words) ≡ Some (texts (take i words ++ drop (i + 1) words))
found_at words i word h at json none =
    let rest : drop i words ≡ word ∷ drop (i + 1) words =
    drop-cons words i word h ∙ ap (λ (w : String Global). w ∷ drop (suc i) words) (sym at)
    ∙ ap (λ (n : ℕ). word ∷ drop n words) (sym (add-one i)) in
    let parts : texts words ≡ texts (take i words) ++ string_bytes word ∷ texts (drop (i + 1) words) =
    ap (λ (ws : Words). texts ws) (sym (take-append-drop i words))
    ∙ map-append string_bytes (take i words) (drop i words)
    ∙ ap (λ (ws : Words). texts (take i words) ++ texts ws) rest in
    ap without_json parts ∙ after_none (texts (take i words)) (string_bytes word ∷ texts (drop (i + 1) words)) none
    ∙ rw json refl
    ∙ ap (λ (ws : Texts). Some ws) (sym (map-append string_bytes (take i words) (drop (i + 1) words)))

pub none_more : (words : Words) (i : ℕ) (word : String Global) → i < length words → word ≡ slice_index_or words i word
    → is_json (string_bytes word) ≡ false → without_json (texts (take i words)) ≡ None
    → without_json (texts (take (i + 1) words)) ≡ None
none_more words i word h at json none =
    let more : take (i + 1) words ≡ take i words ++ word ∷ [] =
    take_more words i word h ∙ ap (λ (w : String Global). take i words ++ w ∷ []) (sym at) in
    ap (λ (ws : Words). without_json (texts ws)) more
    ∙ ap without_json (map-append string_bytes (take i words) (word ∷ []))
    ∙ after_none (texts (take i words)) (string_bytes word ∷ []) none ∙ rw json refl

pub none_at_all : (words : Words) (i : ℕ) → length words ≤ i → without_json (texts (take i words)) ≡ None
    → without_json (texts words) ≡ None
none_at_all words i all none = ap (λ (ws : Words). without_json (texts ws)) (sym (take_all i words all)) ∙ none
