-- A path that is put into a tree, one port after another.
use Rattle.std.proofs.Common.{◌≡◌, ℕ, zero, suc, ◌+◌, ◌-◌, ◌<◌, ◌≤◌, List, [], ◌∷◌, ◌++◌, length, take, drop, get_or, Option, Some, None, Ok, Err, refl, sym, ap, subst, ◌∙◌, arith}
use Rattle.std.specs.Prelude.{slice_get}
use Rattle.std.proofs.lemmas.List.{take_more, drop_more, drop_all, take_all}
use Rattle.std.proofs.lemmas.Option.{slice_get-get_or}
use Rattle.document_rows.specs.declared.fault.Wrong.{Wrong}
use Rattle.document_rows.specs.declared.fault.CellFault.{CellFault}
use Rattle.document_rows.specs.declared.fault.Column.TheVariants as column
use Rattle.document_rows.specs.declared.fault.RowError.{RowError}
use Rattle.document_rows.specs.declared.fault.RowError.TheVariants.{Cell, NoMemory}
use Rattle.document_rows.specs.Reads.{CellRead, and_then, at as at_path}
use Rattle.document_tables.specs.declared.trees.Tree.{Tree}
use Rattle.document_tables.specs.Growing.{Grows}
use Rattle.document_tables.specs.Trees.{last_of, hangs, hangs_from, IsTreeOf}

pub last_take : (behind : Option ℕ) (path : List ℕ) (k : ℕ) → k < length path → last_of behind (take (k + 1) path) ≡ Some (get_or path k 0)
last_take behind [] k h = absurd (omega arith)
last_take behind (p ∷ ps) zero h = refl
last_take behind (p ∷ ps) (suc k) h =
    let n : suc k + 1 ≡ suc (k + 1) = omega arith in ap (λ m. last_of behind (take m (p ∷ ps))) n ∙ last_take (Some p) ps k (omega arith)

-- the port before a place
pub last_before : (path : List ℕ) (k : ℕ) → 1 ≤ k → k ≤ length path → last_of None (take k path) ≡ Some (get_or path (k - 1) 0)
last_before path k a b =
    let n : k - 1 + 1 ≡ k = omega arith in ap (λ m. last_of None (take m path)) (sym n) ∙ last_take None path (k - 1) (omega arith)

pub taken : (path : List ℕ) (k : ℕ) → k < length path → take k path ++ get_or path k 0 ∷ [] ≡ take (k + 1) path
taken path k h = sym (take_more path k 0 h)

at : (paths : List (List ℕ)) (path : List ℕ) (k : ℕ) (after : Option ℕ) → k < length path
    → hangs_from paths k after (drop k path) ≡ and_then (hangs paths k after (get_or path k 0)) (λ last. hangs_from paths (k + 1) last (drop (k + 1) path))
unfolding hangs_from
at paths path k after h = ap (hangs_from paths k after) (drop_more path k 0 h)

pub hang_more : (paths : List (List ℕ)) (path : List ℕ) (k : ℕ) (after last : Option ℕ) → k < length path → hangs paths k after (get_or path k 0) ≡ Ok last
    → hangs_from paths k after (drop k path) ≡ hangs_from paths (k + 1) last (drop (k + 1) path)
hang_more paths path k after last h ok = at paths path k after h ∙ ap (λ (read : CellRead (Option ℕ)). and_then read (λ last. hangs_from paths (k + 1) last (drop (k + 1) path))) ok

pub hang_wrong : (paths : List (List ℕ)) (path : List ℕ) (k : ℕ) (after : Option ℕ) (wrong : Wrong) → k < length path → hangs paths k after (get_or path k 0) ≡ Err wrong → hangs_from paths k after (drop k path) ≡ Err wrong
hang_wrong paths path k after wrong h bad = at paths path k after h ∙ ap (λ (read : CellRead (Option ℕ)). and_then read (λ last. hangs_from paths (k + 1) last (drop (k + 1) path))) bad

pub hang_all : (paths : List (List ℕ)) (path : List ℕ) (k : ℕ) (after : Option ℕ) → length path ≤ k → hangs_from paths k after (drop k path) ≡ Ok after
unfolding hangs_from
hang_all paths path k after h = ap (hangs_from paths k after) (drop_all k path h)

-- ---- what the calls answer
wrong_at : (read whole : CellRead (Option ℕ)) (fault : CellFault) → ((wrong : Wrong) → read ≡ Err wrong → whole ≡ Err wrong) → at_path column.Path read ≡ Err fault → at_path column.Path whole ≡ Err fault
wrong_at (Ok x) whole fault f h = cc
wrong_at (Err wrong) whole fault f h = ap (at_path column.Path) (f wrong refl) ∙ h

pub refused_at : (error : RowError) (paths : List (List ℕ)) (path : List ℕ) (k : ℕ) (after last whole_last : Option ℕ) (with_port with_path : List (List ℕ)) (tree : Tree) → k < length path
    → hangs_from paths 0 None path ≡ hangs_from paths k after (drop k path)
    → Grows (Err error) (hangs paths k after (get_or path k 0)) last with_port tree → Grows (Err error) (hangs_from paths 0 None path) whole_last with_path tree
refused_at (Cell fault) paths path k after last whole_last with_port with_path tree h same g =
    wrong_at (hangs paths k after (get_or path k 0)) (hangs_from paths 0 None path) fault (λ wrong bad. same ∙ hang_wrong paths path k after wrong h bad) g
refused_at NoMemory paths path k after last whole_last with_port with_path tree h same g = tt

-- one more port of the path hangs in the tree
pub grown_at : (paths : List (List ℕ)) (path : List ℕ) (k : ℕ) (after : Option ℕ) (tree : Tree) → k < length path
    → hangs_from paths 0 None path ≡ hangs_from paths k after (drop k path)
    → Grows (Ok tt) (hangs paths k after (get_or path k 0)) (Some (get_or path k 0)) (paths ++ (take k path ++ get_or path k 0 ∷ []) ∷ []) tree
    → IsTreeOf (paths ++ take (k + 1) path ∷ []) tree × (hangs_from paths 0 None path ≡ hangs_from paths (k + 1) (last_of None (take (k + 1) path)) (drop (k + 1) path))
grown_at paths path k after tree h same g = (
  subst (λ (front : List ℕ). IsTreeOf (paths ++ front ∷ []) tree) (taken path k h) g.1,
  same ∙ (hang_more paths path k after (Some (get_or path k 0)) h g.0 ∙ ap (λ (last : Option ℕ). hangs_from paths (k + 1) last (drop (k + 1) path)) (sym (last_take None path k h))),
)

-- the last port of a path, and of none
pub last_port : (path : List ℕ) → last_of None path ≡ slice_get path (length path - 1)
last_port [] = refl
last_port (p ∷ path) =
    let n : length (p ∷ path) - 1 + 1 ≡ length (p ∷ path) = omega arith in
    let all : take (length (p ∷ path) - 1 + 1) (p ∷ path) ≡ p ∷ path = take_all (length (p ∷ path) - 1 + 1) (p ∷ path) (omega arith) in
    ap (last_of None) (sym all) ∙ (last_take None (p ∷ path) (length (p ∷ path) - 1) (omega arith) ∙ sym (slice_get-get_or (p ∷ path) (length (p ∷ path) - 1) 0 (omega arith)))
