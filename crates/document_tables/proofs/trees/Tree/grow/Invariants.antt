use Rattle.std.proofs.Common.{◌≡◌, ℕ, ◌≤◌, List, [], ◌∷◌, ◌++◌, take, drop, None}
use Rattle.document_tables.specs.Trees.{IsTreeOf, last_of, hangs_from}
use Rattle.document_tables.proofs.trees.Tree.grow.Given as goal

abbrev pub invariant-loop-place : goal.invariant-loop-place
invariant-loop-place l = record {
  some : 1 ≤ l.place;
  so_far : (paths : List (List ℕ)) → IsTreeOf paths l.fn.self
      → IsTreeOf (paths ++ take l.place l.path ∷ []) l.self × (hangs_from paths 0 None l.path ≡ hangs_from paths l.place (last_of None (take l.place l.path)) (drop l.place l.path));
}
