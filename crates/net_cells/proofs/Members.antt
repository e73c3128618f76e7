-- The order of the cells has each cell of the network, once, and nothing else.
use Rattle.std.proofs.Common.{◌≡◌, ◌≢◌, ℕ, ◌<◌, ◌+◌, List, [], ◌∷◌, ◌++◌, length, get_or, refl, sym, ap, ◌∙◌, subst, arith, inl, inr, true, false}
use Rattle.std.specs.Prelude.{Option, Some, None, slice_get, slice_index, nat_eq}
use Rattle.std.specs.List.{flat_map, IsDistinct, AllByRecursion}
use Rattle.std.proofs.lemmas.Bool.{ltb-true, eqb-true, eq-eqb, and_parts, and_from}
use Rattle.std.proofs.lemmas.List.{get_or_default}
use Rattle.std.proofs.lemmas.Option.{slice_get_within}
use Rattle.std.proofs.lemmas.Map.Keys.{IsDistinct-head, IsDistinct-tail}
use Rattle.run_laws.specs.Servers.{queue_count}
use Rattle.net_model.specs.Networks.{Net, NetServer, NetFlow}
use Rattle.net_model.specs.Accepted.{IsAccepted, IsHop}
use Rattle.net_model.specs.Orders.{IsOrder}
use Rattle.net_model.proofs.net_graph.Forward.{has_each_server}
use Rattle.net_cells.specs.declared.cell.Cell.{Cell}
use Rattle.net_cells.specs.declared.cell.Scope.{Scope}
use Rattle.net_cells.specs.declared.cell.Scope.TheVariants.{EachHop, EachHopButLast, EachQueue, EachPriorityQueue, EachPath}
use Rattle.net_cells.specs.Numbered.{flow_at, path_of, queues_of, packet_of, hops, server_of_hop, queue_of_hop, is_live, queues, levels, levels_of, discipline_of}
use Rattle.net_cells.specs.Cells.{cell_of, scope_of, is_in_scope, has_cell, path_kinds}
use Rattle.net_cells.specs.Order.{evaluation_order, server_cells, path_cells}
use Rattle.net_cells.specs.Laws.{OrderHasEachCell}
use Rattle.net_cells.proofs.Lists.{Apart, apart_pairs, apart_joined, flat_has, apart_flat}
use Rattle.net_cells.proofs.Places.{flow_inside, home, home_in, Side, at_servers, of_paths, side_of, IsHome, IsOnPath, server_have, has_server, apart_server, path_have, has_path, apart_path, apart_path_kinds, path_scope}
use Rattle.run_laws.proofs.Members.{Has, contains_has, has_contains, has_left, has_right, has_either, has_flat}

-- ---- hops of an accepted network
-- a hop that there is is one of a live flow
pub record IsHopOf (net : Net) (i k : ℕ) : Type 0 where
  pub flow : NetFlow
  pub is : flow_at net i ≡ Some flow
  pub on_path : k < length flow.path

found_flow : (o : Option NetFlow) (k : ℕ) → k < length (path_of o) → (f : NetFlow) × (o ≡ Some f)
found_flow None k h = absurd (omega (arith, h))
found_flow (Some f) k h = (f, refl)

pub hop_of : (net : Net) (i k : ℕ) → k < hops net i → IsHopOf net i k
hop_of net i k h =
    let found = found_flow (flow_at net i) k h in
    record {
      flow = found.0;
      is = found.1;
      on_path = subst (λ (o : Option NetFlow). k < length (path_of o)) found.1 h;
    }

pub hop_kept : (net : Net) (i k : ℕ) → IsAccepted net → (h : k < hops net i)
    → IsHop net.servers (server_of_hop net i k) (queue_of_hop net i k) (packet_of (flow_at net i))
hop_kept net i k a h =
    let hop = hop_of net i k h in
    let place : get_or net.flows i (Some hop.flow) ≡ Some hop.flow =
    get_or_default net.flows i (Some hop.flow) None (flow_inside net i k h) ∙ hop.is in
    let kept = (a.flows hop.flow (i, flow_inside net i k h, place)).hops k hop.on_path in
    subst (λ (o : Option NetFlow). IsHop net.servers (slice_index (path_of o) k) (slice_index (queues_of o) k)
    (packet_of o))
    (sym hop.is) kept

-- ---- servers
has_queues : (net : Net) (s : ℕ) (o : Option NetServer) (b : ℕ) → slice_get net.servers s ≡ o
    → b < queue_count (discipline_of o)
    → s < length net.servers
has_queues net s None b e h = absurd (omega (arith, h))
has_queues net s (Some server) b e h = slice_get_within net.servers s server e

has_levels : (net : Net) (s : ℕ) (o : Option NetServer) (b : ℕ) → slice_get net.servers s ≡ o
    → b < levels_of (discipline_of o)
    → s < length net.servers
has_levels net s None b e h = absurd (omega (arith, h))
has_levels net s (Some server) b e h = slice_get_within net.servers s server e

pub home_inside : (net : Net) (scope : Scope) (a b : ℕ) → IsAccepted net → is_in_scope net scope a b ≡ true
    → scope ≢ EachPath
    → home_in net scope a b < length net.servers
home_inside net EachHop a b acc h n =
    let hop = hop_kept net a b acc (ltb-true b (hops net a) h) in
    slice_get_within net.servers (server_of_hop net a b) hop.server hop.is
home_inside net EachHopButLast a b acc h n =
    let hop = hop_kept net a b acc (let l = ltb-true (b + 1) (hops net a) h in omega (arith, l)) in
    slice_get_within net.servers (server_of_hop net a b) hop.server hop.is
home_inside net EachQueue a b acc h n = has_queues net a (slice_get net.servers a) b refl (ltb-true b (queues net a) h)
home_inside net EachPriorityQueue a b acc h n =
    has_levels net a (slice_get net.servers a) b refl (ltb-true b (levels net a) h)
home_inside net EachPath a b acc h n = absurd (n refl)

pub home_in_order : (net : Net) (order : List ℕ) (s : ℕ) → IsOrder net order → s < length net.servers → Has order s
home_in_order net order s o h = contains_has order s ((has_each_server net order o).each s h)

-- ---- all cells
pub is_home : (net : Net) (c : Cell) → has_cell net c ≡ true → scope_of c.kind ≢ EachPath → IsHome net (home net c) c
is_home net c h n = record { exists = h; at_home = refl; no_path = n }

-- a cell of a whole path
pub is_whole : (net : Net) (c : Cell) → has_cell net c ≡ true → scope_of c.kind ≡ EachPath → IsOnPath net c.kind c
is_whole net c h e =
    let both : is_in_scope net EachPath c.a c.b ≡ true = subst (λ (s : Scope). is_in_scope net s c.a c.b ≡ true) e h in
    let parts = and_parts (is_live net c.a) _ both in
    record { kind_is = refl; live = parts.0; second = eqb-true c.b 0 parts.1 }

pub in_servers : (net : Net) (order : List ℕ) (c : Cell) → IsAccepted net → IsOrder net order → has_cell net c ≡ true
    → scope_of c.kind ≢ EachPath → Has (flat_map (server_cells net) order) c
in_servers net order c a o h n =
    has_flat (server_cells net) order (home net c) c
    (home_in_order net order (home net c) o (home_inside net (scope_of c.kind) c.a c.b a h n))
    (has_server net (home net c) c (is_home net c h n))

pub in_paths : (net : Net) (c : Cell) → has_cell net c ≡ true → scope_of c.kind ≡ EachPath → Has path_kinds c.kind
    → Has (flat_map (path_cells net) path_kinds) c
in_paths net c h e m =
    let whole = is_whole net c h e in
    let same : cell_of c.kind c.a 0 ≡ c = ap (λ (b : ℕ). cell_of c.kind c.a b) (sym whole.second) in
    has_flat (path_cells net) path_kinds c.kind c m
    (subst (Has (path_cells net c.kind)) same (has_path net c.kind c.a whole.live))

pub in_order : (net : Net) (order : List ℕ) (c : Cell) → IsAccepted net → IsOrder net order → has_cell net c ≡ true
    → Has (evaluation_order net order) c
unfolding evaluation_order
in_order net order c a o h = here (side_of c.kind)
  where
    here : Side c.kind → Has (flat_map (server_cells net) order ++ flat_map (path_cells net) path_kinds) c
    here (at_servers m n) =
        has_left (flat_map (server_cells net) order) (flat_map (path_cells net) path_kinds) c
        (in_servers net order c a o h n)
    here (of_paths m e) =
        has_right (flat_map (server_cells net) order) (flat_map (path_cells net) path_kinds) c (in_paths net c h e m)

-- ---- what stands in the order
paths_have : (net : Net) (c : Cell) → Has (flat_map (path_cells net) path_kinds) c
    → (has_cell net c ≡ true) × (scope_of c.kind ≡ EachPath)
paths_have net c h =
    let kind = flat_has (path_cells net) path_kinds c h in
    let whole = path_have net kind.0 c kind.2 in
    let e : scope_of c.kind ≡ EachPath = ap scope_of whole.kind_is ∙ path_scope kind.0 kind.1 in
    let both : is_in_scope net EachPath c.a c.b ≡ true =
    and_from (is_live net c.a) _ whole.live (zero_is c.b whole.second) in
    (subst (λ (s : Scope). is_in_scope net s c.a c.b ≡ true) (sym e) both, e)
  where
    zero_is : (b : ℕ) → b ≡ 0 → nat_eq b 0 ≡ true
    zero_is b e = eq-eqb b 0 e

servers_have : (net : Net) (order : List ℕ) (c : Cell) → Has (flat_map (server_cells net) order) c
    → (s : ℕ) × IsHome net s c
servers_have net order c h = let found =
    flat_has (server_cells net) order c h in (found.0, server_have net found.0 c found.2)

pub order_has : (net : Net) (order : List ℕ) (c : Cell) → Has (evaluation_order net order) c → has_cell net c ≡ true
unfolding evaluation_order
order_has net order c h =
    elim (has_either (flat_map (server_cells net) order) (flat_map (path_cells net) path_kinds) c h) [
      | inl l ↦ (servers_have net order c l).1.exists
      | inr r ↦ (paths_have net c r).0
    ]

-- ---- each once
has_by_recursion : (P : ℕ → Type 0) (xs : List ℕ) (x : ℕ) → AllByRecursion P xs → Has xs x → P x
has_by_recursion P [] x a h = absurd h
has_by_recursion P (y ∷ ys) x a (inl e) = subst P e a.0
has_by_recursion P (y ∷ ys) x a (inr h) = has_by_recursion P ys x a.1 h

apart_distinct : (xs : List ℕ) → IsDistinct nat_eq xs → Apart xs
apart_distinct [] d = tt
apart_distinct (x ∷ xs) d = (
  λ h. let e : nat_eq x x ≡ false =
      has_by_recursion (λ y. nat_eq x y ≡ false) xs x (IsDistinct-head nat_eq x xs d) h in
      let bad : true ≡ false = sym (eq-eqb x x refl) ∙ e in absurd cc,
  apart_distinct xs (IsDistinct-tail nat_eq x xs d),
)

pub apart_cells : (net : Net) (order : List ℕ) → IsOrder net order → Apart (evaluation_order net order)
unfolding evaluation_order
apart_cells net order o =
    apart_joined (flat_map (server_cells net) order) (flat_map (path_cells net) path_kinds)
    (apart_flat (server_cells net) (home net) order (λ s c h. (server_have net s c h).at_home) (apart_server net)
    (apart_distinct order (has_each_server net order o).once))
    (apart_flat (path_cells net) (λ (c : Cell). c.kind) path_kinds (λ kind c h. (path_have net kind c h).kind_is)
    (apart_path net) apart_path_kinds)
    (λ c h k. (servers_have net order c h).1.no_path (paths_have net c k).1)

pub has_each_cell : OrderHasEachCell
has_each_cell net order a o = record {
  only = λ c h. order_has net order c (contains_has (evaluation_order net order) c h);
  all = λ c h. has_contains (evaluation_order net order) c (in_order net order c a o h);
  once = apart_pairs (evaluation_order net order) (apart_cells net order o);
}
