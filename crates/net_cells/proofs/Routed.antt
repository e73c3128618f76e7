-- The route of a flow of a network, by its number.
use Rattle.std.specs.Prelude.{◌≡◌, ℕ, Option, Some, None, is_some}
use Rattle.std.proofs.Common.{refl, ap, ◌∙◌}
use Rattle.std.proofs.Math.ListN.{get_or-map}
use Rattle.run_laws.specs.Routes.{Route, route_of}
use Rattle.net_model.specs.Networks.{Net, NetFlow}
use Rattle.net_model.specs.NetRoutes.{route_for, routes_of}
use Rattle.net_cells.specs.Numbered.{flow_at, is_live}

pub route_is : (net : Net) (i : ℕ) → route_of (routes_of net) i ≡ route_for (flow_at net i)
route_is net i = get_or-map route_for net.flows i None

live_for : (o : Option NetFlow) → (route_for o).live ≡ is_some o
live_for None = refl
live_for (Some f) = refl

pub live_is : (net : Net) (i : ℕ) → (route_of (routes_of net) i).live ≡ is_live net i
live_is net i = ap (λ (r : Route). r.live) (route_is net i) ∙ live_for (flow_at net i)
