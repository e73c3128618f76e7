-- What the laws of runs need to know of a network. (Le Boudec and Thiran; that work may be at any pace in version 1, and at
-- most at the server's rate in version 2, is our own choice.)
use Rattle.std.specs.Prelude.{ℕ, List, [], ◌∷◌, map, Option, Some, None, true, false, ◌==◌, if◌then◌else◌}
use Rattle.rational.specs.Rational.{ℚ}
use Rattle.run_laws.specs.Servers.{Server}
use Rattle.run_laws.specs.Routes.{Hop, Route, Routes}
use Rattle.net_model.specs.Networks.{Net, NetServer, NetFlow}

-- a path: at each server the queue of the same place
abbrev pub hops_along : (path queues : List ℕ) → List Hop
hops_along [] queues = []
hops_along (s ∷ path) [] = []
hops_along (s ∷ path) (q ∷ queues) = record { server = s; queue = q } ∷ hops_along path queues

-- where there is no flow, no packet enters
abbrev pub route_for : Option NetFlow → Route
route_for None = record { live = false; hops = [] }
route_for (Some f) = record { live = true; hops = hops_along f.path f.queues }

-- the pace that no work of a server passes
abbrev pub pace_for : (version : ℕ) → ℚ → Option ℚ
pace_for version rate = if version == 2 then Some rate else None

abbrev pub server_for : (version : ℕ) → NetServer → Server
server_for version s = record { discipline = s.discipline; pace = pace_for version s.rate }

abbrev pub link_for : NetServer → ℚ
link_for s = s.link

abbrev pub routes_of : Net → Routes
routes_of net = record {
  servers = map (server_for net.version) net.servers;
  links = map link_for net.servers;
  flows = map route_for net.flows;
}
