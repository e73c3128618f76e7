-- A row at its place among those of a text.
use Rattle.std.proofs.Common.{◌≡◌, ◌⊎◌, ℕ, ◌+◌, ◌<◌, List, [], ◌∷◌, ◌++◌, length, take, drop, get_or, map, sym, ap, arith, inl, inr, ◌∙◌, append_assoc, take-append-drop, length-take}
use Rattle.std.proofs.lemmas.List.{drop_more, take_more, get_or-map, length-map}
use Rattle.input_texts.specs.table_text.Rows.{Row}

pub record IsPlace (rows : List Row) (k : ℕ) (row : Row) : Type 0 where
  pub within : k < length rows
  pub at : get_or rows k row ≡ row

-- what is read from the item at a place is the row at that place
pub place_of : {A : Type 0} (read : A → Row) (items : List A) (k : ℕ) (x : A) → k < length items → x ≡ get_or items k x
    → IsPlace (map read items) k (read x)
place_of read items k x below is = record {
  within = let many = length-map items read in omega (arith, many, below);
  at = get_or-map read items k x (read x) below ∙ ap read (sym is);
}

-- ---- the rows before it, and those after it
pub so_many : (rows : List Row) (k : ℕ) → k < length rows → length (take k rows) ≡ k
so_many rows k within = let taken = length-take k rows in omega (arith, taken, within)

pub one_more : (rows : List Row) (k : ℕ) (row : Row) → k < length rows → get_or rows k row ≡ row
    → take (k + 1) rows ≡ take k rows ++ row ∷ []
one_more rows k row within at = take_more rows k row within ∙ ap (λ (x : Row). take k rows ++ x ∷ []) at

-- among the first rows of all
pub parted : (all rows : List Row) (most k : ℕ) (row : Row) → rows ≡ take most all → k < length rows → get_or rows k row ≡ row
    → all ≡ take k rows ++ row ∷ (drop (k + 1) rows ++ drop most all)
parted all rows most k row is within at =
    let rest = drop most all in
    let here : drop k rows ≡ row ∷ drop (k + 1) rows = drop_more rows k row within ∙ ap (λ (x : Row). x ∷ drop (k + 1) rows) at in
    let cut : rows ≡ take k rows ++ (row ∷ drop (k + 1) rows) = sym (take-append-drop k rows) ∙ ap (λ (rs : List Row). take k rows ++ rs) here in
    sym (take-append-drop most all) ∙ (ap (λ rs. rs ++ rest) (sym is ∙ cut) ∙ append_assoc (take k rows) (row ∷ drop (k + 1) rows) rest)

-- ---- its fault
-- want of memory, which is told as such, or a fault of its own
pub told_by : {M W A O B : Type 0} → M ⊎ (¬ M) → M ⊎ W → (M → A) → (¬ M → O) → (O → W → B) → A ⊎ B
told_by (inl memory) fault as_memory as_fault wrong = inl (as_memory memory)
told_by (inr none) (inl memory) as_memory as_fault wrong = inl (as_memory memory)
told_by (inr none) (inr fault) as_memory as_fault wrong = inr (wrong (as_fault none) fault)
