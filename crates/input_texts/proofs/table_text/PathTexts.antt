-- Entries of paths, one after another.
use Rattle.std.proofs.Common.{◌≡◌, ℕ, zero, suc, ◌+◌, ◌-◌, ◌^◌, ◌<◌, ◌≤◌, min, true, false, List, [], ◌∷◌, ◌++◌, length, take, drop, map, Option, Some, None, option_map, slice_index, refl, sym, ap, arith, ◌∙◌, append_assoc, append-nil}
use Rattle.std.specs.List.{slice_range}
use Rattle.std.proofs.lemmas.List.{drop-drop}
use Rattle.std.proofs.Math.Seq.{drop-cons}
use Rattle.std.specs.Str.{IsUtf8}
use Rattle.std.specs.Str.Parse.{digits_value}
use Rattle.std.proofs.lemmas.Bool.{eq-eqb, ne_eqb}
use Rattle.std.proofs.lemmas.Bool.Decides.{nat_tests}
use Rattle.rational.specs.Gauge.{cap}
use Rattle.fraction128.specs.Text.{is_numeral}
use Rattle.net_model.specs.Names.{is_name_byte}
use Rattle.input_texts.specs.declared.table_text.fault.TableKind.{TableKind}
use Rattle.input_texts.specs.declared.table_text.fault.TableKind.TheVariants.{T1, T2, T3, T4, T5, T6, T7, NoMemory}
use Rattle.input_texts.specs.table_text.EditRows.{IsMissing}
use Rattle.input_texts.proofs.table_text.PlainTexts.{both, passed_is_text}
use Rattle.input_texts.specs.table_text.Paths.{EntryText, is_name, entry_of, entry_in, word_with, words_of, all_of}

-- ---- names are text
below : (b : ℕ) → is_name_byte b ≡ true → b < 128
below b h = grind (arith, nat_tests)

pub name_is_text : (name : List ℕ) → is_name name ≡ true → IsUtf8 name
name_is_text name h = passed_is_text is_name_byte below name (both _ _ h).0

-- ---- one entry
pub entry_is : (name digits server : List ℕ) (n q : ℕ) → is_name name ≡ true → is_numeral digits ≡ true → n ≡ cap (digits_value 10 digits) → q ≡ min n (2 ^ 32 - 1) → server ≡ name
    → entry_of name digits ≡ Some (record { server = server; queue = q })
unfolding cap
entry_is name digits server n q a b e f s =
    let k : min (digits_value 10 digits) (2 ^ 32 - 1) ≡ q = omega (arith, e, f) in
    rw (a, b) (ap (λ x. Some (let t : EntryText = record { server = name; queue = x } in t)) k ∙ ap (λ x. Some (let t : EntryText = record { server = x; queue = q } in t)) (sym s))

-- ---- words between spaces
-- the words behind the byte at the front, which is a space
abbrev pub tail_words : List ℕ → List (List ℕ)
tail_words [] = []
tail_words (b ∷ bs) = words_of bs

-- the words from a place on, where a word starts there or the text is over
abbrev pub words_from : List ℕ → ℕ → List (List ℕ)
words_from text zero = words_of text
words_from text (suc end) = tail_words (drop end text)

words_split : (s : List ℕ) (n : ℕ) → n ≤ length s → ((k : ℕ) → k < n → slice_index s k ≡ 32 → ⊥) → (n < length s → slice_index s n ≡ 32) → words_of s ≡ take n s ∷ tail_words (drop n s)
unfolding words_of
words_split [] zero le none ends = refl
words_split [] (suc n) le none ends = absurd (omega arith)
words_split (b ∷ bs) zero le none ends = ap (λ t. word_with t b (words_of bs)) (eq-eqb b 32 (ends (omega arith)))
words_split (b ∷ bs) (suc n) le none ends =
    ap (λ t. word_with t b (words_of bs)) (ne_eqb b 32 (none 0 (omega arith)))
    ∙ ap (word_with false b) (words_split bs n (omega arith) (λ k less. none (suc k) (omega arith)) (λ less. ends (omega arith)))

words_there : (text : List ℕ) (start : ℕ) → start ≤ length text → words_from text start ≡ words_of (drop start text)
words_there text zero le = refl
words_there text (suc end) le = ap tail_words (drop-cons text end 0 (omega arith))

words_over : (text : List ℕ) (start : ℕ) → length text < start → words_from text start ≡ []
words_over text zero less = absurd (omega arith)
words_over [] (suc zero) less = refl
words_over [] (suc (suc end)) less = refl
words_over (b ∷ bs) (suc zero) less = absurd (omega arith)
words_over (b ∷ bs) (suc (suc end)) less = words_over bs (suc end) (omega arith)

-- from a place on: the word there, and the words behind its space
pub next_word : (text part : List ℕ) (start n : ℕ) → start ≤ length text → part ≡ drop start text → n ≤ length part
    → ((k : ℕ) → k < n → slice_index part k ≡ 32 → ⊥) → (n < length part → slice_index part n ≡ 32)
    → words_from text start ≡ slice_range text start (start + n) ∷ words_from text (start + n + 1)
next_word text part start n le p within none ends =
    let m : n ≡ start + n - start = omega arith in
    let cut : take n part ≡ slice_range text start (start + n) = ap (take n) p ∙ ap (λ k. take k (drop start text)) m in
    let behind : drop n part ≡ drop (start + n) text = ap (drop n) p ∙ drop-drop n start text in
    let one : suc (start + n) ≡ start + n + 1 = omega arith in
    words_there text start le ∙ ap words_of (sym p) ∙ words_split part n within none ends
    ∙ ap (λ l. l ∷ tail_words (drop n part)) cut
    ∙ ap (λ l. slice_range text start (start + n) ∷ tail_words l) behind
    ∙ ap (λ k. slice_range text start (start + n) ∷ words_from text k) one

-- ---- entries that were read, and those that are left
abbrev pub joined : List EntryText → Option (List EntryText) → Option (List EntryText)
joined xs o = option_map (λ ys. xs ++ ys) o

joined_more : (xs : List EntryText) (e : EntryText) (o : Option (List EntryText)) → joined xs (option_map (λ ys. e ∷ ys) o) ≡ joined (xs ++ e ∷ []) o
joined_more xs e None = refl
joined_more xs e (Some ys) = ap Some (sym (append_assoc xs (e ∷ []) ys))

pub joined_none : (o : Option (List EntryText)) → joined [] o ≡ o
joined_none None = refl
joined_none (Some ys) = refl

-- of words
abbrev pub read_in : List (List ℕ) → Option (List EntryText)
read_in words = all_of (map entry_in words)

pub one_more : (words : List (List ℕ)) (word : List ℕ) (rest : List (List ℕ)) (xs : List EntryText) (e : EntryText) (all : Option (List EntryText)) → words ≡ word ∷ rest → entry_in word ≡ Some e
    → joined xs (read_in words) ≡ all → joined (xs ++ e ∷ []) (read_in rest) ≡ all
unfolding all_of
one_more words word rest xs e all is says so =
    let first : read_in words ≡ option_map (λ ys. e ∷ ys) (read_in rest) = ap read_in is ∙ ap (λ o. all_of (o ∷ map entry_in rest)) says in
    sym (joined_more xs e (read_in rest)) ∙ (ap (joined xs) (sym first) ∙ so)

pub none_here : (words : List (List ℕ)) (word : List ℕ) (rest : List (List ℕ)) (xs : List EntryText) (all : Option (List EntryText)) → words ≡ word ∷ rest → joined xs (read_in words) ≡ all
    → entry_in word ≡ None → all ≡ None
unfolding all_of
none_here words word rest xs all is so says = sym so ∙ ap (joined xs) (ap read_in is ∙ ap (λ o. all_of (o ∷ map entry_in rest)) says)

pub all_read : (text : List ℕ) (start : ℕ) (xs : List EntryText) (all : Option (List EntryText)) → length text < start → joined xs (read_in (words_from text start)) ≡ all → all ≡ Some xs
unfolding all_of
all_read text start xs all over so = sym so ∙ (ap (λ ws. joined xs (read_in ws)) (words_over text start over) ∙ ap Some (append-nil xs))

-- what is missing in a part is missing in the whole
pub missing_all : {X Y : Type 0} (kind : TableKind) (part : Option X) (whole : Option Y) → (part ≡ None → whole ≡ None) → IsMissing kind part → IsMissing kind whole
missing_all T1 part whole f h = h
missing_all T2 part whole f h = h
missing_all T3 part whole f h = h
missing_all T4 part whole f h = f h
missing_all T5 part whole f h = h
missing_all T6 part whole f h = h
missing_all T7 part whole f h = h
missing_all NoMemory part whole f h = h
