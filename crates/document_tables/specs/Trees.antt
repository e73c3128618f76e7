-- Paths of one link that together are a tree: they begin at one port, and no port comes after two different ones.
use Rattle.std.specs.Prelude.{◌≡◌, ℕ, ◌+◌, ◌==◌, nat_eq, ◌&&◌, ◌||◌, Bool, true, false, not, List, [], ◌∷◌, Option, Some, None, Ok, Err, if◌then◌else◌}
use Rattle.std.specs.List.{list_any}
use Rattle.std.specs.Map.{lookup}
use Rattle.document_rows.specs.declared.fault.Wrong.TheVariants.{BeginsElsewhere, AfterAnother}
use Rattle.document_rows.specs.Reads.{CellRead, and_then}
use Rattle.document_tables.specs.declared.trees.Tree.{Tree}
use Rattle.document_tables.specs.Stops.{stops_of}

-- the same port, or none at both
abbrev pub same : Option ℕ → Option ℕ → Bool
same None None = true
same None (Some q) = false
same (Some p) None = false
same (Some p) (Some q) = p == q

-- on what is left of a path, behind a port or behind none, a port comes right after this one; after none where the path
-- begins with it
unfoldable pub comes_after : (port : ℕ) → (after behind : Option ℕ) → List ℕ → Bool
comes_after port after behind [] = false
comes_after port after behind (p ∷ path) = (p == port && same behind after) || comes_after port after (Some p) path

-- it comes right after another one, or the path begins with it
unfoldable pub comes_otherwise : (port : ℕ) → (after behind : Option ℕ) → List ℕ → Bool
comes_otherwise port after behind [] = false
comes_otherwise port after behind (p ∷ path) =
    (p == port && not (same behind after)) || comes_otherwise port after (Some p) path

-- the last port of a path, or what stands before it
abbrev pub last_of : Option ℕ → List ℕ → Option ℕ
last_of behind [] = behind
last_of behind (q ∷ path) = last_of (Some q) path

-- a path begins with another port
abbrev pub begins_elsewhere : (port : ℕ) → List ℕ → Bool
begins_elsewhere port [] = false
begins_elsewhere port (p ∷ path) = not (p == port)

-- a port that comes after another one, or after none, as the port at this place of a path: not otherwise on the earlier paths
abbrev pub hangs : List (List ℕ) → (place : ℕ) → (after : Option ℕ) → (port : ℕ) → CellRead (Option ℕ)
hangs paths place None port = if list_any (begins_elsewhere port) paths then Err BeginsElsewhere else Ok (Some port)
hangs paths place (Some after) port =
    if list_any (comes_otherwise port (Some after) None) paths then Err (AfterAnother (place + 1)) else Ok (Some port)

-- each port of what is left of a path: the last one, or the first that is wrong
unfoldable pub hangs_from : List (List ℕ) → (place : ℕ) → (after : Option ℕ) → List ℕ → CellRead (Option ℕ)
hangs_from paths place after [] = Ok after
hangs_from paths place after (port ∷ path) =
    and_then (hangs paths place after port) (λ last. hangs_from paths (place + 1) last path)

-- ---- a tree that is kept of paths
-- on one of the paths a port comes after this one, or after none
abbrev pub comes : List (List ℕ) → (port : ℕ) → (after : Option ℕ) → Bool
comes paths port after = list_any (comes_after port after None) paths

-- what each port comes after, and the port at which all begin: what some path says, and nothing else
pub record AreKept (paths : List (List ℕ)) (after : ℕ → Option (Option ℕ)) (root : Option ℕ) : Type 0 where
  pub held : (p : ℕ) (x : Option ℕ) → after p ≡ Some x → comes paths p x ≡ true
  pub all : (p : ℕ) (x : Option ℕ) → comes paths p x ≡ true → after p ≡ Some x
  pub root_held : (r : ℕ) → root ≡ Some r → comes paths r None ≡ true
  pub root_all : (r : ℕ) → comes paths r None ≡ true → root ≡ Some r

pub record IsTreeOf (paths : List (List ℕ)) (tree : Tree) : Type 0 where
  pub kept : AreKept paths (λ port. lookup (nat_eq port) tree.stops) tree.root
  pub stops : tree.stops ≡ stops_of paths
