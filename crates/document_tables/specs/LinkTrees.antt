-- What the calls that read links keep and answer: for each link the tree of its paths.
use Rattle.std.specs.Prelude.{◌≡◌, ℕ, ◌+◌, ◌≤◌, List, [], length, slice_get, None, Some, Result, Ok, Err}
use Rattle.document_rows.specs.declared.fault.CellFault.{CellFault}
use Rattle.document_rows.specs.declared.fault.RowError.{RowError}
use Rattle.document_rows.specs.declared.fault.RowError.TheVariants.{Cell, NoMemory}
use Rattle.document_rows.specs.Reads.{RowRead}
use Rattle.document_tables.specs.declared.links.Branch.{Branch}
use Rattle.document_tables.specs.declared.links.LinkKeys.{LinkKeys}
use Rattle.document_tables.specs.declared.links.LinkTable.{LinkTable}
use Rattle.document_tables.specs.declared.trees.Tree.{Tree}
use Rattle.document_tables.specs.Grids.{place_after}
use Rattle.document_tables.specs.Links.{Links, BranchText, branches_of, passed_by, paths_of}
use Rattle.document_tables.specs.Stops.{stops_of}
use Rattle.document_tables.specs.Trees.{IsTreeOf, last_of}

-- the ports of a branch's path are there, and it has the place of the last of them in the tree of its link
pub record IsHung (passed : List ℕ) (branches : List BranchText) (b : Branch) : Type 0 where
  pub inside : b.first + b.count ≤ length passed
  pub ends : place_after (stops_of (paths_of b.link branches)) (last_of None (passed_by passed b)) ≡ Some b.node

-- each is the tree of the paths of its link
pub record AreTreesOf (branches : List BranchText) (trees : List Tree) : Type 0 where
  pub each : (k : ℕ) (tree : Tree) → slice_get trees k ≡ Some tree → IsTreeOf (paths_of k branches) tree

-- each link has a name, what its rows agree in, and the tree of its paths; a branch is of one of them, and hangs on its tree
pub record AreTrees (table : LinkTable) : Type 0 where
  pub names : length table.names ≡ length table.keys.items
  pub trees : length table.trees.items ≡ length table.keys.items
  pub of_paths : AreTreesOf (branches_of table) table.trees.items
  pub others : (k : ℕ) → length table.keys.items ≤ k → paths_of k (branches_of table) ≡ []
  pub hung : (k : ℕ) (b : Branch) → slice_get table.branches.items k ≡ Some b → IsHung table.passed.items (branches_of table) b

-- a row agrees, or differs as it is read
abbrev pub AreAlike : Result (Unit {0}) CellFault → RowRead LinkKeys → Type 0
AreAlike (Ok u) read = (keys : LinkKeys) × (read ≡ Ok keys)
AreAlike (Err fault) read = read ≡ Err fault

-- a row made the new of the old, and its link has this number; or it has this fault; want of memory says nothing
abbrev pub MakesLink : Result ℕ RowError → RowRead Links → (made : Links) → (link : ℕ) → Type 0
MakesLink (Ok n) read made link = (read ≡ Ok made) × (n ≡ link)
MakesLink (Err (Cell fault)) read made link = read ≡ Err fault
MakesLink (Err NoMemory) read made link = Unit {0}
