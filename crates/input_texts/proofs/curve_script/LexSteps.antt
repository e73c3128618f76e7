-- One more token of a line.
use Rattle.std.proofs.Common.{◌≡◌, ℕ, zero, suc, ◌+◌, ◌<◌, List, [], ◌∷◌, ◌++◌, length, take, drop, get_or, Option, Some, None, true, false, refl, sym, ap, ◌∙◌, arith, add-one}
use Rattle.std.specs.Prelude.{option_map, map, ◌-◌}
use Rattle.std.specs.List.{list_all, slice_range}
use Rattle.std.proofs.Math.Seq.{drop-cons}
use Rattle.std.proofs.lemmas.List.{take-append-drop, append_assoc, drop-drop, map-append}
use Rattle.input_texts.specs.declared.curve_script.token.Sign.{Sign}
use Rattle.input_texts.specs.declared.curve_script.token.Token.{Token as CodeToken}
use Rattle.input_texts.specs.declared.curve_script.token.ByteClass.{ByteClass}
use Rattle.input_texts.specs.declared.curve_script.token.ByteClass.TheVariants.{InWord, Blank, SignOf}
use Rattle.input_texts.specs.curve_script.Tokens.{Token, Word, Mark, is_word_byte, starts_word}
use Rattle.input_texts.specs.curve_script.Lexing.{class_of, with_byte, lex, view}
use Rattle.input_texts.proofs.curve_script.Lexed.{class_word_only, lex-word}

pub head_drop : (line : List ℕ) (at : ℕ) → at < length line → drop at line ≡ get_or line at 0 ∷ drop (at + 1) line
head_drop line at h = rw add-one (drop-cons line at 0 h)

module _ (line : List ℕ) (at : ℕ) (told : List Token) (within : at < length line) (same : lex line ≡ option_map (λ ts. told ++ ts) (lex (drop at line))) where
  opened : (k : ByteClass) → class_of (get_or line at 0) ≡ k
      → lex line ≡ option_map (λ ts. told ++ ts) (with_byte k (get_or line at 0) (starts_word (drop (at + 1) line)) (lex (drop (at + 1) line)))
  opened k h = same ∙ ap (λ l. option_map (λ ts. told ++ ts) (lex l)) (head_drop line at within)
      ∙ ap (λ c. option_map (λ ts. told ++ ts) (with_byte c (get_or line at 0) (starts_word (drop (at + 1) line)) (lex (drop (at + 1) line)))) h

  pub blank_step : class_of (get_or line at 0) ≡ Blank → lex line ≡ option_map (λ ts. told ++ ts) (lex (drop (at + 1) line))
  blank_step h = opened Blank h

  pub sign_step : (s : Sign) → class_of (get_or line at 0) ≡ SignOf s → lex line ≡ option_map (λ ts. (told ++ Mark s ∷ []) ++ ts) (lex (drop (at + 1) line))
  sign_step s h = opened (SignOf s) h ∙ go (lex (drop (at + 1) line))
    where
      go : (o : Option (List Token)) → option_map (λ ts. told ++ ts) (with_byte (SignOf s) (get_or line at 0) (starts_word (drop (at + 1) line)) o) ≡ option_map (λ ts. (told ++ Mark s ∷ []) ++ ts) o
      go None = refl
      go (Some ts) = ap Some (sym (append_assoc told (Mark s ∷ []) ts))

-- a word from the front
split_word : (s : List ℕ) (n : ℕ) → list_all is_word_byte (take n s) ≡ true → starts_word (drop n s) ≡ false → starts_word s ≡ true
    → (0 < n) × (lex s ≡ option_map (λ ts. Word (take n s) ∷ ts) (lex (drop n s)))
split_word [] n e f g = absurd cc
split_word (b ∷ bs) zero e f g = let bad : true ≡ false = sym g ∙ f in absurd cc
split_word (b ∷ bs) (suc n) e f g =
    (omega arith, ap (λ l. lex (b ∷ l)) (sym (take-append-drop n bs)) ∙ lex-word b (take n bs) (drop n bs) e f)

pub word_step : (line part : List ℕ) (at n : ℕ) (told : List Token) → at < length line
    → lex line ≡ option_map (λ ts. told ++ ts) (lex (drop at line))
    → class_of (get_or line at 0) ≡ InWord
    → part ≡ drop at line
    → list_all is_word_byte (take n part) ≡ true
    → starts_word (drop n part) ≡ false
    → (0 < n) × (lex line ≡ option_map (λ ts. (told ++ Word (slice_range line at (at + n)) ∷ []) ++ ts) (lex (drop (at + n) line)))
word_step line part at n told within same h p e f =
    let begins : starts_word part ≡ true = ap starts_word (p ∙ head_drop line at within) ∙ class_word_only (get_or line at 0) h in
    let split = split_word part n e f begins in
    let m : n ≡ at + n - at = omega arith in
    let cut : take n part ≡ slice_range line at (at + n) = ap (take n) p ∙ ap (λ k. take k (drop at line)) m in
    let behind : drop n part ≡ drop (at + n) line = ap (drop n) p ∙ drop-drop n at line in (
      split.0,
      same ∙ ap (λ l. option_map (λ ts. told ++ ts) (lex l)) (sym p) ∙ ap (option_map (λ ts. told ++ ts)) split.1 ∙ go (take n part) (lex (drop n part))
          ∙ ap (λ w. option_map (λ ts. (told ++ Word w ∷ []) ++ ts) (lex (drop n part))) cut
          ∙ ap (λ l. option_map (λ ts. (told ++ Word (slice_range line at (at + n)) ∷ []) ++ ts) (lex l)) behind,
    )
  where
    go : (w : List ℕ) (o : Option (List Token)) → option_map (λ ts. told ++ ts) (option_map (λ ts. Word w ∷ ts) o) ≡ option_map (λ ts. (told ++ Word w ∷ []) ++ ts) o
    go w None = refl
    go w (Some ts) = ap Some (sym (append_assoc told (Word w ∷ []) ts))

-- what was told, with one more token of the code
pub push_told : (old new : List CodeToken) (t : CodeToken) (line rest : List ℕ) → new ≡ old ++ t ∷ []
    → lex line ≡ option_map (λ ts. (map view old ++ view t ∷ []) ++ ts) (lex rest)
    → lex line ≡ option_map (λ ts. map view new ++ ts) (lex rest)
push_told old new t line rest e h =
    let told : map view new ≡ map view old ++ view t ∷ [] = ap (map view) e ∙ map-append view old (t ∷ []) in
    h ∙ ap (λ l. option_map (λ ts. l ++ ts) (lex rest)) (sym told)
