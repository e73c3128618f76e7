-- The parts of a network with one of them replaced, put together again; and what tests have told at the end of paths.
use Rattle.std.proofs.Common.{◌≡◌, ℕ, ◌≤◌, List, [], ◌∷◌, length, drop, min, Option, true, refl, ap, ◌∙◌, inl, inr, arith}
use Rattle.std.specs.Prelude.{slice_set}
use Rattle.std.specs.Option.{option_map}
use Rattle.std.proofs.lemmas.Bool.{cases_lt}
use Rattle.std.proofs.lemmas.List.{map-set, drop_all}
use Rattle.net_model.specs.declared.flow.Flow.{Flow}
use Rattle.net_model.specs.declared.server.Server.{Server}
use Rattle.net_model.specs.Networks.{Net, NetServer, NetFlow}
use Rattle.net_model.specs.Views.{server_of, flow_of, servers_of, flows_of, net_of}
use Rattle.net_edits.specs.Changed.{put_server, put_flow}
use Rattle.net_edits.specs.Values.{are_queues, fits_along}

abbrev of_parts : ℕ → List NetServer → List (Option NetFlow) → Net
of_parts version servers flows = record { version = version; servers = servers; flows = flows }

same_parts : (v w : ℕ) (ss ts : List NetServer) (fs gs : List (Option NetFlow)) → v ≡ w → ss ≡ ts → fs ≡ gs
    → of_parts v ss fs ≡ of_parts w ts gs
same_parts v w ss ts fs gs p q r =
    ap (λ (x : ℕ). of_parts x ss fs) p
    ∙ ap (λ (x : List NetServer). of_parts w x fs) q
    ∙ ap (λ (x : List (Option NetFlow)). of_parts w ts x) r

server_replaced : (net : Net) (version : ℕ) (ss : List Server) (fs : List (Option Flow)) (i : ℕ) (server : Server)
    → version ≡ net.version → servers_of ss ≡ net.servers → flows_of fs ≡ net.flows
    → net_of version (slice_set ss i server) fs ≡ put_server net i (server_of server)
server_replaced net version ss fs i server own servers flows =
    same_parts version net.version (servers_of (slice_set ss i server)) (slice_set net.servers i (server_of server)) (flows_of fs) net.flows
    own
    (map-set server_of ss i server
    ∙ ap (λ (xs : List NetServer). slice_set xs i (server_of server)) servers)
    flows

flow_replaced : (net : Net) (version : ℕ) (ss : List Server) (fs : List (Option Flow)) (i : ℕ) (place : Option Flow)
    → version ≡ net.version → servers_of ss ≡ net.servers → flows_of fs ≡ net.flows
    → net_of version ss (slice_set fs i place) ≡ put_flow net i (option_map flow_of place)
flow_replaced net version ss fs i place own servers flows =
    same_parts version net.version (servers_of ss) net.servers (flows_of (slice_set fs i place))
    (slice_set net.flows i (option_map flow_of place))
    own
    servers
    (map-set (option_map flow_of) fs i place
    ∙ ap (λ (xs : List (Option NetFlow)). slice_set xs i (option_map flow_of place)) flows)

-- with lists that were changed in place
pub server_set : (net : Net) (version : ℕ) (ss more : List Server) (fs : List (Option Flow)) (i : ℕ) (server : Server)
    → more ≡ slice_set ss i server → version ≡ net.version → servers_of ss ≡ net.servers → flows_of fs ≡ net.flows
    → net_of version more fs ≡ put_server net i (server_of server)
server_set net version ss more fs i server is own servers flows =
    ap (λ (xs : List Server). net_of version xs fs) is ∙ server_replaced net version ss fs i server own servers flows

pub flow_set : (net : Net) (version : ℕ) (ss : List Server) (fs more : List (Option Flow)) (i : ℕ) (flow : Option Flow)
    → more ≡ slice_set fs i flow → version ≡ net.version → servers_of ss ≡ net.servers → flows_of fs ≡ net.flows
    → net_of version ss more ≡ put_flow net i (option_map flow_of flow)
flow_set net version ss fs more i flow is own servers flows =
    ap (λ (xs : List (Option Flow)). net_of version ss xs) is ∙ flow_replaced net version ss fs i flow own servers flows

-- ---- ends of paths
no_lanes : (net : Net) (path : List ℕ) → are_queues net path [] ≡ true
no_lanes net [] = refl
no_lanes net (s ∷ path) = refl

pub queues_done : (net : Net) (path lanes : List ℕ) (n : ℕ) → min (length path) (length lanes) ≤ n
    → are_queues net (drop n path) (drop n lanes) ≡ true
queues_done net path lanes n h =
    elim (cases_lt n (length path)) [
      | inl l ↦
          ap (λ (qs : List ℕ). are_queues net (drop n path) qs) (drop_all n lanes (omega (arith, h, l))) ∙ no_lanes net (drop n path)
      | inr l ↦ ap (λ (ss : List ℕ). are_queues net ss (drop n lanes)) (drop_all n path l)
    ]

no_lanes_fit : (servers : List NetServer) (bits : ℕ) (path : List ℕ) → fits_along servers bits path [] ≡ true
no_lanes_fit servers bits [] = refl
no_lanes_fit servers bits (s ∷ path) = refl

pub fits_done : (servers : List NetServer) (bits : ℕ) (path lanes : List ℕ) (n : ℕ) → min (length path) (length lanes) ≤ n
    → fits_along servers bits (drop n path) (drop n lanes) ≡ true
fits_done servers bits path lanes n h =
    elim (cases_lt n (length path)) [
      | inl l ↦
          ap (λ (qs : List ℕ). fits_along servers bits (drop n path) qs) (drop_all n lanes (omega (arith, h, l)))
          ∙ no_lanes_fit servers bits (drop n path)
      | inr l ↦ ap (λ (ss : List ℕ). fits_along servers bits ss (drop n lanes)) (drop_all n path l)
    ]
