-- Ports of a path, one after another.
use Rattle.std.proofs.Common.{◌≡◌, ℕ, ◌+◌, ◌<◌, ◌≤◌, ◌==◌, false, List, [], ◌∷◌, ◌++◌, length, take, drop, get_or, Ok, Err, sym, ap, ap₂, subst, ◌∙◌, arith, length-append, ⊎_elim, ◌⊎◌, inl, inr}
use Rattle.std.proofs.lemmas.Bool.{cases_lt}
use Rattle.std.specs.List.{list_any}
use Rattle.std.proofs.lemmas.List.{drop_more, drop_all, get_or_append_left, take-append-le}
use Rattle.std.proofs.Math.Seq.{get_or-append_seam, take-append_seam}
use Rattle.document_rows.specs.declared.fault.Wrong.{Wrong}
use Rattle.document_rows.specs.Reads.{CellRead, and_then}
use Rattle.document_tables.specs.Ports.{Ports}
use Rattle.document_tables.specs.Paths.{next_port, path_from}
use Rattle.document_tables.specs.Growing.{HasOwnPorts}

module _ (ports : Ports) (priority frame : ℕ) where
  here : (before : List ℕ) (words : List (List ℕ)) (k : ℕ) (word : List ℕ) → k < length words → word ≡ get_or words k []
      → path_from ports priority frame before (drop k words) ≡ and_then (next_port ports priority frame before word) (λ n. path_from ports priority frame (before ++ n ∷ []) (drop (k + 1) words))
  unfolding path_from
  here before words k word h is = ap (path_from ports priority frame before) (drop_more words k [] h ∙ ap (λ (w : List ℕ). w ∷ drop (k + 1) words) (sym is))

  pub path_more : (before : List ℕ) (words : List (List ℕ)) (k : ℕ) (word : List ℕ) (n : ℕ) → k < length words → word ≡ get_or words k [] → next_port ports priority frame before word ≡ Ok n
      → path_from ports priority frame before (drop k words) ≡ path_from ports priority frame (before ++ n ∷ []) (drop (k + 1) words)
  path_more before words k word n h is ok =
      here before words k word h is ∙ ap (λ (read : CellRead ℕ). and_then read (λ n. path_from ports priority frame (before ++ n ∷ []) (drop (k + 1) words))) ok

  pub path_wrong : (before : List ℕ) (words : List (List ℕ)) (k : ℕ) (word : List ℕ) (wrong : Wrong) → k < length words → word ≡ get_or words k [] → next_port ports priority frame before word ≡ Err wrong
      → path_from ports priority frame before (drop k words) ≡ Err wrong
  path_wrong before words k word wrong h is bad =
      here before words k word h is ∙ ap (λ (read : CellRead ℕ). and_then read (λ n. path_from ports priority frame (before ++ n ∷ []) (drop (k + 1) words))) bad

  pub path_all : (before : List ℕ) (words : List (List ℕ)) (k : ℕ) → length words ≤ k → path_from ports priority frame before (drop k words) ≡ Ok before
  unfolding path_from
  path_all before words k h = ap (path_from ports priority frame before) (drop_all k words h)

pub own_none : HasOwnPorts []
own_none k h = absurd (omega arith)

pub own_more : (path : List ℕ) (n : ℕ) → HasOwnPorts path → list_any (λ m. m == n) path ≡ false → HasOwnPorts (path ++ n ∷ [])
own_more path n own new k h =
    let len = length-append path (n ∷ []) in
    ⊎_elim
    (λ (less : k < length path).
    ap₂ (λ m ms. list_any (λ j. j == m) ms) (get_or_append_left path (n ∷ []) 0 k less) (take-append-le k path (n ∷ []) (omega (arith, less))) ∙ own k less)
    (λ (last : k ≡ length path).
    subst (λ j. list_any (λ i. i == get_or (path ++ n ∷ []) j 0) (take j (path ++ n ∷ [])) ≡ false) (sym last)
    (ap₂ (λ m ms. list_any (λ j. j == m) ms) (get_or-append_seam path n [] 0) (take-append_seam path (n ∷ [])) ∙ new))
    (place (omega (arith, h, len)))
  where
    place : k ≤ length path → (k < length path) ⊎ (k ≡ length path)
    place l = elim (cases_lt k (length path)) [
      | inl less ↦ inl less
      | inr past ↦ inr (omega arith)
    ]
