-- The routes of an accepted network: what runs know of its servers and flows is what the network has.
use Rattle.std.specs.Prelude.{◌≡◌, ℕ, zero, suc, pos, ◌<◌, ◌≤◌, List, [], ◌∷◌, length, map, true, Option, Some, None, is_some, slice_get, Contains}
use Rattle.std.proofs.Common.{arith, sym, ap, ◌∙◌, refl, subst, get_or}
use Rattle.std.proofs.lemmas.List.{get_or_default, length-map}
use Rattle.std.proofs.lemmas.Option.{slice_get_within}
use Rattle.rational.specs.Rational.{ℚ, int, ◌≤ℚ◌}
use Rattle.rational.proofs.Laws.{le_refl}
use Rattle.run_laws.specs.Servers.{Fifo, Server, queue_count}
use Rattle.run_laws.specs.Routes as routes
use Rattle.run_laws.specs.Routes.{Route, route_of, link_at, PassesServer}
use Rattle.net_model.specs.Networks.{Net, NetServer, NetFlow}
use Rattle.net_model.specs.Accepted.{IsAccepted, IsServer}
use Rattle.net_laws.specs.Paths.{IsPath}
use Rattle.net_cells.specs.Numbered.{flow_at, path_of, queues_of, path, hops, server_of_hop, queue_of_hop, is_live, link_of, link, discipline, discipline_of}
use Rattle.net_cells.proofs.Lists.{Apart}
use Rattle.net_cells.proofs.Places.{live_inside}
use Rattle.net_cells.proofs.Members.{hop_kept}
use Rattle.net_cells.proofs.Stored.{server_kept}
pub use Rattle.net_cells.proofs.Routed.{route_is, live_is}
use Rattle.net_bounds.specs.NetRuns.{hops_along, route_for, server_for, link_for, routes_of}
use Rattle.net_bounds.proofs.Placed.{place_in, placed, apart_from}
use Rattle.net_bounds.proofs.Paths.{is_path, passes_has, has_passes}
use Rattle.run_laws.proofs.Members.{at_has}

-- ---- flows
-- the queues of a flow, one at each server of its path
abbrev pub own_queues : Net → ℕ → List ℕ
own_queues net i = queues_of (flow_at net i)

hops_for : (o : Option NetFlow) → (route_for o).hops ≡ hops_along (path_of o) (queues_of o)
hops_for None = refl
hops_for (Some f) = refl

pub hops_is : (net : Net) (i : ℕ) → (route_of (routes_of net) i).hops ≡ hops_along (path net i) (own_queues net i)
hops_is net i = ap (λ (r : Route). r.hops) (route_is net i) ∙ hops_for (flow_at net i)

found : (o : Option NetFlow) → is_some o ≡ true → (f : NetFlow) × (o ≡ Some f)
found None h = absurd (cc)
found (Some f) h = (f, refl)

-- a live flow's path
pub record IsRouted (net : Net) (i : ℕ) : Type 0 where
  pub some : 1 ≤ hops net i
  pub paired : length (own_queues net i) ≡ length (path net i)
  pub apart : Apart (path net i)

pub record LiveFlow (net : Net) (i : ℕ) : Type 0 where
  pub flow : NetFlow
  pub is : flow_at net i ≡ Some flow
  pub there : Contains net.flows (Some flow)

pub live_flow : (net : Net) (i : ℕ) → is_live net i ≡ true → LiveFlow net i
live_flow net i h =
    let flow = found (flow_at net i) h in
    let inside = live_inside net i h in
    record {
      flow = flow.0;
      is = flow.1;
      there = (i, inside, get_or_default net.flows i (Some flow.0) None inside ∙ flow.1);
    }

pub routed : (net : Net) (i : ℕ) → IsAccepted net → is_live net i ≡ true → IsRouted net i
routed net i a h =
    let it = live_flow net i h in
    let kept = a.flows it.flow it.there in
    record {
      some = subst (λ (o : Option NetFlow). 1 ≤ length (path_of o)) (sym it.is) kept.some;
      paired = subst (λ (o : Option NetFlow). length (queues_of o) ≡ length (path_of o)) (sym it.is) kept.paired;
      apart = subst (λ (o : Option NetFlow). Apart (path_of o)) (sym it.is) (apart_from it.flow.path kept.once);
    }

-- a flow with a hop is live
pub hop_is_live : (net : Net) (i k : ℕ) → k < hops net i → is_live net i ≡ true
hop_is_live net i k h = one (flow_at net i) h
  where
    one : (o : Option NetFlow) → k < length (path_of o) → is_some o ≡ true
    one None l = absurd (omega (arith, l))
    one (Some f) l = refl

-- ---- servers
server_of : (servers : List NetServer) (s : ℕ) → s < length servers → (x : NetServer) × (slice_get servers s ≡ Some x)
server_of [] s h = absurd (omega (arith, h))
server_of (x ∷ servers) zero h = (x, refl)
server_of (x ∷ servers) (suc s) h = server_of servers s (omega (arith, h))

-- a server that there is
pub record IsServerAt (net : Net) (s : ℕ) : Type 0 where
  pub server : NetServer
  pub is : slice_get net.servers s ≡ Some server
  pub keeps : IsServer server

pub known_server : (net : Net) (s : ℕ) → IsAccepted net → s < length net.servers → IsServerAt net s
known_server net s a h =
    let it = server_of net.servers s h in
    record { server = it.0; is = it.1; keeps = server_kept net s it.0 a it.1 }

pub servers_are : (net : Net) → length (routes_of net).servers ≡ length net.servers
servers_are net = length-map net.servers (server_for net.version)

pub server_read : (version : ℕ) (servers : List NetServer) (s : ℕ) (x : NetServer) (d : Server) → slice_get servers s ≡ Some x
    → get_or (map (server_for version) servers) s d ≡ server_for version x
server_read version [] s x d e = absurd (cc)
server_read version (y ∷ servers) zero x d e = ap (server_for version) (same y e)
  where
    same : (z : NetServer) → Some z ≡ Some x → z ≡ x
    same z k = cc
server_read version (y ∷ servers) (suc s) x d e = server_read version servers s x d e

pub discipline_is : (net : Net) (s : ℕ) → IsAccepted net → s < length net.servers
    → (routes.server_at (routes_of net) s).discipline ≡ discipline net s
discipline_is net s a h =
    let it = known_server net s a h in
    ap (λ (x : Server). x.discipline)
    (server_read net.version net.servers s it.server record { discipline = Fifo; pace = None } it.is)
    ∙ ap discipline_of (sym it.is)

link_read : (servers : List NetServer) (s : ℕ)
    → get_or (map link_for servers) s (int (pos 0)) ≡ link_of (slice_get servers s)
link_read [] s = refl
link_read (x ∷ servers) zero = refl
link_read (x ∷ servers) (suc s) = link_read servers s

pub link_is : (net : Net) (s : ℕ) → link_at (routes_of net) s ≡ link net s
link_is net s = link_read net.servers s

pub link_nonneg : (net : Net) (s : ℕ) → IsAccepted net → int (pos 0) ≤ℚ link net s
link_nonneg net s a = one (slice_get net.servers s) refl
  where
    one : (o : Option NetServer) → slice_get net.servers s ≡ o → int (pos 0) ≤ℚ link_of o
    one None e = le_refl (int (pos 0))
    one (Some x) e = (server_kept net s x a e).link

-- ---- hops
pub hop_inside : (net : Net) (i k : ℕ) → IsAccepted net → k < hops net i → server_of_hop net i k < length net.servers
hop_inside net i k a h =
    let hop = hop_kept net i k a h in
    slice_get_within net.servers (server_of_hop net i k) hop.server hop.is

pub queue_inside : (net : Net) (i k : ℕ) → IsAccepted net → k < hops net i
    → queue_of_hop net i k < queue_count (discipline net (server_of_hop net i k))
queue_inside net i k a h =
    let hop = hop_kept net i k a h in
    subst (λ (o : Option NetServer). queue_of_hop net i k < queue_count (discipline_of o)) (sym hop.is) hop.has_queue

-- the place of a server on a flow's path
abbrev pub hop_at : Net → ℕ → ℕ → ℕ
hop_at net i s = place_in s (path net i)

pub record PassesAt (net : Net) (i s : ℕ) : Type 0 where
  pub within : hop_at net i s < hops net i
  pub is : server_of_hop net i (hop_at net i s) ≡ s

pub passes_at : (net : Net) (i s : ℕ) → PassesServer s (route_of (routes_of net) i).hops → PassesAt net i s
passes_at net i s p =
    let stands = placed s (path net i)
    (passes_has s (path net i) (own_queues net i) (subst (PassesServer s) (hops_is net i) p)) in
    record { within = stands.within; is = stands.is }

pub hop_passes : (net : Net) (i k : ℕ) → IsAccepted net → k < hops net i
    → PassesServer (server_of_hop net i k) (route_of (routes_of net) i).hops
hop_passes net i k a h =
    let on = routed net i a (hop_is_live net i k h) in
    subst (PassesServer (server_of_hop net i k)) (sym (hops_is net i))
    (has_passes (server_of_hop net i k) (path net i) (own_queues net i) on.paired
    (at_has (path net i) k 0 (server_of_hop net i k) h refl))

-- ---- each live flow has a path
pub path_is : (net : Net) (i : ℕ) → IsAccepted net → (route_of (routes_of net) i).live ≡ true
    → IsPath (routes_of net) (route_of (routes_of net) i).hops
path_is net i a live =
    let on = routed net i a (sym (live_is net i) ∙ live) in
    subst (IsPath (routes_of net)) (sym (hops_is net i))
    (is_path (routes_of net) (path net i) (own_queues net i)
    (λ s h.
    let stands = placed s (path net i) h in
    let inside : server_of_hop net i (hop_at net i s) < length net.servers =
    hop_inside net i (hop_at net i s) a stands.within in
    let small : s < length net.servers = subst (λ (t : ℕ). t < length net.servers) stands.is inside in
    subst (λ (n : ℕ). s < n) (sym (servers_are net)) small)
    (λ s. subst (λ (x : ℚ). int (pos 0) ≤ℚ x) (sym (link_is net s)) (link_nonneg net s a)) on.apart)
