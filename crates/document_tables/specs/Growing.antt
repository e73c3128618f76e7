-- What calls that put a path into a tree answer.
use Rattle.std.specs.Prelude.{◌≡◌, ℕ, ◌<◌, ◌==◌, false, List, length, take, get_or, Option, Result, Ok, Err}
use Rattle.std.specs.List.{list_any}
use Rattle.document_rows.specs.declared.fault.Column.TheVariants as column
use Rattle.document_rows.specs.declared.fault.RowError.{RowError}
use Rattle.document_rows.specs.declared.fault.RowError.TheVariants.{Cell, NoMemory}
use Rattle.document_rows.specs.Reads.{CellRead, at}
use Rattle.document_tables.specs.declared.trees.Tree.{Tree}
use Rattle.document_tables.specs.Trees.{IsTreeOf}

-- the last port of what hangs there, and the tree of these paths; or the fault; want of memory says nothing
abbrev pub Grows : Result (Unit {0}) RowError → CellRead (Option ℕ) → (last : Option ℕ) → List (List ℕ) → Tree → Type 0
Grows (Ok u) read last paths tree = (read ≡ Ok last) × IsTreeOf paths tree
Grows (Err (Cell fault)) read last paths tree = at column.Path read ≡ Err fault
Grows (Err NoMemory) read last paths tree = Unit {0}

-- no port of the path stands in it before
abbrev pub HasOwnPorts : List ℕ → Type 0
HasOwnPorts path = (k : ℕ) → k < length path → list_any (λ n. n == get_or path k 0) (take k path) ≡ false
