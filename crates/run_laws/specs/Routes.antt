-- What runs need to know of a network: its servers and links, and each flow's path.
use Rattle.std.specs.Prelude.{Option, Some, None, ◌≡◌, ◌⊎◌, ℕ, pos, Bool, false, ◌==◌, List, [], ◌∷◌, get_or, if◌then◌else◌}
use Rattle.rational.specs.Rational.{ℚ, int}
use Rattle.run_laws.specs.Servers.{Fifo, Server}

-- a server of a path, and the queue there
pub record Hop : Type 0 where
  pub server : ℕ
  pub queue : ℕ

-- packets of a flow that is not live do not enter
pub record Route : Type 0 where
  pub live : Bool
  pub hops : List Hop

-- `links`: for each server, how long a packet that leaves it is on the way to the next server, or to the flow's end
pub record Routes : Type 0 where
  pub servers : List Server
  pub links : List ℚ
  pub flows : List Route

-- the server, link and flow of a number; what is beyond the last means nothing
abbrev pub server_at : Routes → ℕ → Server
server_at net s = get_or net.servers s record { discipline = Fifo; pace = None }

abbrev pub link_at : Routes → ℕ → ℚ
link_at net s = get_or net.links s (int (pos 0))

abbrev pub route_of : Routes → ℕ → Route
route_of net flow = get_or net.flows flow record { live = false; hops = [] }

-- ---- paths
-- the queue of a path at a server
abbrev pub queue_at : ℕ → List Hop → ℕ
queue_at s [] = 0
queue_at s (h ∷ hs) = if h.server == s then h.queue else queue_at s hs

-- the path has server s
abbrev pub PassesServer : ℕ → List Hop → Type 0
PassesServer s [] = ⊥
PassesServer s (h ∷ hs) = (h.server ≡ s) ⊎ PassesServer s hs

-- the first server of a path, if it has one
abbrev pub first_of : List Hop → Option ℕ
first_of [] = None
first_of (h ∷ hs) = Some h.server

-- the first server of a path that has one
abbrev pub first_server : List Hop → ℕ
first_server [] = 0
first_server (h ∷ hs) = h.server

-- the server after s
abbrev pub server_after : ℕ → List Hop → Option ℕ
server_after s [] = None
server_after s (h ∷ hs) = if h.server == s then first_of hs else server_after s hs

-- the last server of a path that has one
abbrev pub last_server : List Hop → ℕ
last_server [] = 0
last_server (h ∷ []) = h.server
last_server (h ∷ g ∷ hs) = last_server (g ∷ hs)
