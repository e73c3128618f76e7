-- Cells of rows, and rows of which some cell is not empty.
use Rattle.std.proofs.Common.{◌≡◌, ℕ, zero, suc, ◌+◌, ◌-◌, ◌<◌, true, false, List, [], ◌∷◌, ◌++◌, map, length, drop, take, get_or, refl, sym, ap, ◌∙◌, length-append, arith}
use Rattle.std.specs.Char.{is_ascii_whitespace}
use Rattle.std.proofs.lemmas.Bool.{eqb-true}
use Rattle.std.proofs.lemmas.List.{drop_more, map-append, take_all, take_more}
use Rattle.csv.specs.Records.{field_at, trim_end, trim_start, trimmed}
use Rattle.csv.proofs.RecordFacts.{end-plain, start-plain}
use Rattle.csv_rows.specs.Rows.{Row, cell, is_empty, is_blank}

cell_is : (row : Row) (k : ℕ) → get_or row k [] ≡ cell row k
unfolding field_at
cell_is [] k = refl
cell_is (c ∷ cs) zero = refl
cell_is (c ∷ cs) (suc k) = cell_is cs k

pub drop_cell : (row : Row) (k : ℕ) → k < length row → drop k row ≡ cell row k ∷ drop (k + 1) row
drop_cell row k h = drop_more row k [] h ∙ ap (λ (c : List ℕ). c ∷ drop (k + 1) row) (cell_is row k)

pub blank_more : (row : Row) (k : ℕ) → k < length row → is_empty (cell row k) ≡ true → is_blank (drop k row) ≡ is_blank (drop (k + 1) row)
blank_more row k h e = ap is_blank (drop_cell row k h) ∙ rw e refl

pub not_blank : (row : Row) (k : ℕ) → k < length row → is_empty (cell row k) ≡ false → is_blank (drop k row) ≡ false
not_blank row k h e = ap is_blank (drop_cell row k h) ∙ rw e refl

-- ---- cells without white space at an end
pub no_bytes : (bytes : List ℕ) → is_empty bytes ≡ true → trimmed bytes ≡ bytes
unfolding trim_start trim_end
no_bytes [] e = refl
no_bytes (byte ∷ bytes) e = absurd (let none = eqb-true (length (byte ∷ bytes)) 0 e in omega (arith, none))

all_bytes : (bytes : List ℕ) (last : ℕ) → last + 1 ≡ length bytes → is_ascii_whitespace (get_or bytes last 0) ≡ false → trim_end bytes ≡ length bytes
all_bytes bytes last next back =
    let whole = take_all (last + 1) bytes (omega (arith, next)) in
    let split : bytes ≡ take last bytes ++ get_or bytes last 0 ∷ [] = sym whole ∙ take_more bytes last 0 (omega (arith, next)) in
    let size = ap length split in
    let parts = length-append (take last bytes) (get_or bytes last 0 ∷ []) in
    let before : length (take last bytes) + 1 ≡ length bytes = omega (arith, size, parts) in
    ap trim_end split ∙ (end-plain (take last bytes) (get_or bytes last 0) back ∙ before)

some_bytes : (bytes : List ℕ) → is_empty bytes ≡ false → 0 < length bytes
some_bytes [] e = cc
some_bytes (byte ∷ bytes) e = omega arith

pub tight : (bytes : List ℕ) (size : ℕ) → is_empty bytes ≡ false → size ≡ length bytes → is_ascii_whitespace (get_or bytes 0 0) ≡ false
    → is_ascii_whitespace (get_or bytes (size - 1) 0) ≡ false → trimmed bytes ≡ bytes
tight bytes size some is front back =
    let more = some_bytes bytes some in
    let start : trim_start bytes ≡ bytes = start-plain bytes 0 more front in
    let end = all_bytes bytes (size - 1) (omega (arith, more, is)) back in
    ap (λ (xs : List ℕ). take (trim_end xs) xs) start ∙ (ap (λ (n : ℕ). take n bytes) end ∙ take_all (length bytes) bytes (omega arith))

pub tight_more : (row : Row) (k : ℕ) → k < length row → map trimmed (take k row) ≡ take k row → trimmed (cell row k) ≡ cell row k
    → map trimmed (take (k + 1) row) ≡ take (k + 1) row
tight_more row k h before one =
    let more : take (k + 1) row ≡ take k row ++ cell row k ∷ [] =
    take_more row k [] h ∙ ap (λ (c : List ℕ). take k row ++ c ∷ []) (cell_is row k) in
    ap (map trimmed) more ∙ (map-append trimmed (take k row) (cell row k ∷ []) ∙ ((λ i. before i ++ one i ∷ []) ∙ sym more))
