-- The known keys of a table.
use Rattle.std.specs.Prelude.{ℕ, List, [], ◌∷◌, map, Result, Ok, Err, if◌then◌else◌}
use Rattle.std.specs.Borrow.{Bor}
use Rattle.std.specs.List.{list_any}
use Rattle.std.specs.Str.{bytes_eq}
use Rattle.toml.specs.Data.{Members, no_members, member}
use Rattle.net_model.specs.declared.fault.NetKind.TheVariants.{M3}
use Rattle.net_draft.specs.Faults.{Read, under}

-- what lies behind references to texts
abbrev pub texts_of : List (Bor (List ℕ)) → List (List ℕ)
texts_of = map (λ r. r.now)

-- each key of a table is known, or a fault at the least that is not: members come in the order of their keys
abbrev pub only : List (List ℕ) → List ℕ → Members → Read (Unit {0})
only known place no_members = Ok tt
only known place (member k d ms) =
    if list_any (bytes_eq k) known then only known place ms else Err (record { kind = M3; place = under place k })
