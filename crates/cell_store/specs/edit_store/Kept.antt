-- What a store keeps beside the present network: of the networks before it what each edit replaced, and the present one once
-- more, with what was replaced of that; and the order of its servers. Own choice.
use Rattle.std.specs.declared.vec.Vec.{Vec}
use Rattle.std.specs.Prelude.{◌≡◌, ℕ, List, [], ◌∷◌, ◌++◌, All, Option, Some, None}
use Rattle.net_model.specs.Networks.{Net}
use Rattle.net_model.specs.Accepted.{IsAccepted}
use Rattle.net_model.specs.Orders.{IsOrder}
use Rattle.net_cells.specs.Meanings.{Meaning}
use Rattle.version_table.specs.Histories.{History}
use Rattle.cell_rules.specs.declared.edit_sites.replaced.Replaced.{Replaced}
use Rattle.cell_rules.specs.edit_sites.Replaced.{put_back, networks_before}
use Rattle.cell_store.specs.edit_store.Stored.{IsStored}

-- they are networks as every one is, and there is a version of the values for each
pub record IsKept {V : Type 0} (meaning : V → Meaning) (replaced : List Replaced) (present : Net)
    (values : History V) : Type 0 where
  pub stored : IsStored meaning (networks_before replaced present) present values
  pub accepted : All IsAccepted (networks_before replaced present)

-- ---- the present network once more
-- it is the same, if there is one
abbrev pub IsSameAs : Option Net → Net → Type 0
IsSameAs None present = Unit {0}
IsSameAs (Some net) present = net ≡ present

-- where what was replaced last is put back into it, it is this network
abbrev pub GoesBack : Option Net → List Replaced → Net → Type 0
GoesBack spare spared before = (net : Net) (fewer : List Replaced) (last : Replaced) → spare ≡ Some net
    → spared ≡ fewer ++ last ∷ [] → put_back last net ≡ before

-- the last one is gone
abbrev pub IsOneLess : List Replaced → List Replaced → Type 0
IsOneLess all fewer = (last : Replaced) × (all ≡ fewer ++ last ∷ [])

-- by what was replaced of it, the same networks were before
pub record IsBeside (spare : Option Net) (spared replaced : List Replaced) (present : Net) : Type 0 where
  pub same : IsSameAs spare present
  pub before : networks_before spared present ≡ networks_before replaced present

-- ---- the order of a network's servers
-- if it is known
abbrev pub IsOrderOf : {Z : Type 0} → Option (Vec ℕ Z) → Net → Type 0
IsOrderOf None net = Unit {0}
IsOrderOf (Some order) net = IsOrder net order.items

-- all that a store keeps
pub record IsHeld {V Z : Type 0} (meaning : V → Meaning) (spare : Option Net) (spared replaced : List Replaced)
    (order : Option (Vec ℕ Z)) (present : Net) (values : History V) : Type 0 where
  pub order : IsOrderOf order present
  pub kept : IsKept meaning replaced present values
  pub beside : IsBeside spare spared replaced present
