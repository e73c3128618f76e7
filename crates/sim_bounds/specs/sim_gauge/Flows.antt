-- The path of a flow by its number.
use Rattle.std.specs.Prelude.{Option, ℕ, false, List, [], map, get_or}
use Rattle.run_laws.specs.Routes.{Hop}
use Rattle.net_model.specs.Networks.{NetFlow}
use Rattle.net_model.specs.NetRoutes.{route_for}

abbrev pub hops_of : List (Option NetFlow) → ℕ → List Hop
hops_of flows f = (get_or (map route_for flows) f record { live = false; hops = [] }).hops
