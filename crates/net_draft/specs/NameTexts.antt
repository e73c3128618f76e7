-- The names of a set, in its order.
use Rattle.std.specs.Prelude.{ℕ, List, map, String}
use Rattle.std.specs.String.{string_bytes}
use Rattle.std.specs.declared.alloc.Global.{Global}
use Rattle.indexmap.specs.IndexSet.{IndexSet}

abbrev pub texts : {S : Type 0} → IndexSet (String Global) S → List (List ℕ)
texts names = map string_bytes names.keys
