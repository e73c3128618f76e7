-- Words that were cut off a text, and those that are left in it.
use Rattle.std.proofs.Common.{◌≡◌, ℕ, ◌+◌, ◌-◌, ◌<◌, ◌≤◌, true, false, List, [], ◌∷◌, ◌++◌, length, take, drop, get_or, refl, sym, ap, ◌∙◌, arith, append_assoc, length-drop}
use Rattle.std.proofs.lemmas.List.{take_more, drop_more, drop_all, get_or-drop}
use Rattle.std.specs.Char.{is_ascii_whitespace}
use Rattle.std.specs.List.{slice_range}
use Rattle.table_cells.specs.Words.{ended, words_from, words_of}

-- the words that are cut off, and those that are left, are all
abbrev pub IsCut : List ℕ → (start at : ℕ) → List (List ℕ) → Type 0
IsCut cell start at words = words ++ words_from (slice_range cell start at) (drop at cell) ≡ words_of cell

ended_before : (word : List ℕ) (rest : List (List ℕ)) → ended word rest ≡ ended word [] ++ rest
ended_before [] rest = refl
ended_before (b ∷ bs) rest = refl

none_yet : (cell : List ℕ) (at : ℕ) → slice_range cell at at ≡ []
none_yet cell at = let n : at - at ≡ 0 = omega arith in ap (λ k. take k (drop at cell)) n

left : (cell : List ℕ) (at : ℕ) → at < length cell → drop at cell ≡ get_or cell at 0 ∷ drop (at + 1) cell
left cell at h = drop_more cell at 0 h

pub cut_blank : (cell : List ℕ) (start at : ℕ) (words : List (List ℕ)) → at < length cell → is_ascii_whitespace (get_or cell at 0) ≡ true → IsCut cell start at words
    → IsCut cell (at + 1) (at + 1) (words ++ ended (slice_range cell start at) [])
unfolding words_from
cut_blank cell start at words h b so =
    let word = slice_range cell start at in
    let rest = drop (at + 1) cell in
    let step : words_from word (drop at cell) ≡ ended word (words_from [] rest) =
    ap (words_from word) (left cell at h) ∙ rw b refl in
    append_assoc words (ended word []) (words_from (slice_range cell (at + 1) (at + 1)) rest)
    ∙ ap (λ w. words ++ (ended word [] ++ words_from w rest)) (none_yet cell (at + 1))
    ∙ ap (λ ws. words ++ ws) (sym (ended_before word (words_from [] rest)) ∙ sym step)
    ∙ so

longer : (cell : List ℕ) (start at : ℕ) → start ≤ at → at < length cell → slice_range cell start (at + 1) ≡ slice_range cell start at ++ get_or cell at 0 ∷ []
longer cell start at s h =
    let n : at + 1 - start ≡ at - start + 1 = omega arith in
    let len = length-drop start cell in
    let place : start + (at - start) ≡ at = omega arith in
    ap (λ k. take k (drop start cell)) n
    ∙ take_more (drop start cell) (at - start) 0 (omega (arith, len))
    ∙ ap (λ b. take (at - start) (drop start cell) ++ b ∷ []) (get_or-drop start cell (at - start) 0 ∙ ap (λ k. get_or cell k 0) place)

pub cut_more : (cell : List ℕ) (start at : ℕ) (words : List (List ℕ)) → start ≤ at → at < length cell → is_ascii_whitespace (get_or cell at 0) ≡ false → IsCut cell start at words
    → IsCut cell start (at + 1) words
unfolding words_from
cut_more cell start at words s h b so =
    let word = slice_range cell start at in
    let rest = drop (at + 1) cell in
    let step : words_from word (drop at cell) ≡ words_from (word ++ get_or cell at 0 ∷ []) rest =
    ap (words_from word) (left cell at h) ∙ rw b refl in
    ap (λ w. words ++ words_from w rest) (longer cell start at s h)
    ∙ ap (λ ws. words ++ ws) (sym step)
    ∙ so

pub cut_all : (cell : List ℕ) (start at : ℕ) (words : List (List ℕ)) → at ≡ length cell → IsCut cell start at words
    → words ++ ended (slice_range cell start (length cell)) [] ≡ words_of cell
unfolding words_from
cut_all cell start at words n so =
    let none : drop at cell ≡ [] = drop_all at cell (omega (arith, n)) in
    ap (λ k. words ++ ended (slice_range cell start k) []) (sym n) ∙ (sym (ap (λ rest. words ++ words_from (slice_range cell start at) rest) none) ∙ so)
