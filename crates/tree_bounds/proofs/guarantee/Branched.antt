-- Each branch of a link keeps its bound.
use Rattle.std.proofs.Common.{◌≡◌, ◌≢◌, ℕ, zero, suc, ◌<◌, ◌+◌, pos, Option, Some, None, List, [], ◌∷◌, ◌++◌, length, get_or, map, refl, sym, ◌∙◌, ap, subst, arith, inl, inr}
use Rattle.std.specs.Prelude.{slice_get}
use Rattle.std.proofs.lemmas.List.{get_or-map}
use Rattle.std.proofs.lemmas.Option.{get_or_from_slice_get, slice_get_cases}
use Rattle.rational.specs.Rational.{int, ◌+ℚ◌}
use Rattle.rational.specs.Extended.{Ext, ◌+ₑ◌}
use Rattle.rational.specs.declared.Extended.TheVariants.{Fin}
use Rattle.rational.proofs.ExtendedOrder.{add_ext_comm, add_ext_assoc, add_zero_ext}
use Rattle.rational.proofs.Laws.{zero_mul, add_assoc}
use Rattle.run_laws.specs.Runs.{SpecRun}
use Rattle.run_laws.specs.Delays.{AreAtMost}
use Rattle.run_laws.specs.Routes.{Hop, Routes, PassesServer, link_at, queue_at, last_server}
use Rattle.net_laws.specs.Paths.{sum_along}
use Rattle.tree_runs.specs.Trees as trees
use Rattle.tree_runs.specs.Trees.{Tree, tree_of, hops_in, flat, tree_server_before}
use Rattle.tree_runs.specs.Branches.{delays_to, GoesOn, IsBranch}
use Rattle.tree_runs.specs.Bounded.{stay_in, stays_along}
use Rattle.arrival_lines.specs.Grid.{micros, picosecond}
use Rattle.arrival_lines.specs.declared.grid.Queue.{Queue}
use Rattle.arrival_lines.proofs.Units.{micros_add}
use Rattle.tree_network.specs.Networks.{IsNetwork, IsLink, HangsBefore, node_at, no_node, port_at, no_port}
use Rattle.tree_network.specs.declared.network.Link.{Link}
use Rattle.tree_network.specs.declared.network.Network.{Network}
use Rattle.tree_network.specs.declared.network.Node.{Node}
use Rattle.tree_network.proofs.Those.{eq_true, eq_false}
use Rattle.tree_bounds.specs.Tables.{row_in, bounds_in, time_after, time_before, AreBounds, IsTableOf}
use Rattle.tree_bounds.specs.declared.analysis.Table.{Table}
use Rattle.tree_bounds.specs.guarantee.Routes.{routes_of, tree_of_link, node_of, port_before, link_time}
use Rattle.tree_bounds.specs.guarantee.Guarantee.{IsRunOf, TablesAreGuaranteed}
use Rattle.tree_bounds.proofs.guarantee.TreesOf.{tree_at, at_passes}
use Rattle.tree_bounds.proofs.guarantee.Begun.{IsLiveLink}
use Rattle.tree_bounds.proofs.guarantee.Grown.{delay_in, delay_by, queue_first}
use Rattle.tree_bounds.proofs.guarantee.Kept.{all_bounded, queues_keep}

-- ---- a branch with one port more
goes_more : (nodes : List trees.Node) (from : Option ℕ) (hs : List Hop) (last next : Hop) → GoesOn nodes from (hs ++ last ∷ [])
    → PassesServer next.server (hops_in nodes) → tree_server_before next.server nodes ≡ Some last.server → GoesOn nodes from ((hs ++ last ∷ []) ++ next ∷ [])
goes_more nodes from [] last next g p e = (g.0, g.1, (p, e, tt))
goes_more nodes from (h ∷ hs) last next g p e = (g.0, g.1, goes_more nodes (Some h.server) hs last next g.2 p e)

last_is : (hs : List Hop) (last : Hop) → last_server (hs ++ last ∷ []) ≡ last.server
last_is [] last = refl
last_is (h ∷ []) last = refl
last_is (h ∷ (g ∷ hs)) last = last_is (g ∷ hs) last

sum_more : (net : Routes) (stay : ℕ → ℕ → Ext) (i : ℕ) (hs : List Hop) (next : Hop) → sum_along net (hs ++ next ∷ []) (stays_along stay i (hs ++ next ∷ []))
    ≡ sum_along net hs (stays_along stay i hs) +ₑ (stay i next.server +ₑ Fin (link_at net next.server))
sum_more net stay i [] next =
    let x = stay i next.server +ₑ Fin (link_at net next.server) in
    add_zero_ext x ∙ sym (add_ext_comm (Fin (int (pos 0))) x ∙ add_zero_ext x)
sum_more net stay i (h ∷ hs) next =
    let x = stay i h.server +ₑ Fin (link_at net h.server) in
    ap (λ z. x +ₑ z) (sum_more net stay i hs next)
    ∙ sym (add_ext_assoc x (sum_along net hs (stays_along stay i hs)) (stay i next.server +ₑ Fin (link_at net next.server)))

from_first : (link : Link) (s : ℕ) (xs : List Node) (k : ℕ) → k < length xs → (get_or xs k no_node).port ≡ s → ((j : ℕ) → j < k → (get_or xs j no_node).port ≢ s)
    → tree_server_before s (map (node_of link) xs) ≡ port_before link (get_or xs k no_node).from
from_first link s [] k h e none = absurd (omega (arith, h))
from_first link s (x ∷ xs) zero h e none = let hit = eq_true x.port s e in rw hit refl
from_first link s (x ∷ xs) (suc k) h e none =
    let miss = eq_false x.port s (none 0 (omega arith)) in
    let rest = from_first link s xs k (omega (arith, h)) e (λ j lt. none (suc j) (omega (arith, lt))) in
    rw miss rest

no_time : micros 0 ≡ int (pos 0)
unfolding micros
no_time = zero_mul picosecond

-- ---- the branch to a place of a link
abbrev hop_at : Link → ℕ → Hop
hop_at link place = record { server = (node_at link place).port; queue = (node_at link place).queue }

abbrev stay_by : Network → (ℕ → ℕ → Option Queue) → ℕ → ℕ → Ext
stay_by net row = stay_in (routes_of net) (delay_by row)

record IsChain (net : Network) (row : ℕ → ℕ → Option Queue) (i : ℕ) (link : Link) (place total : ℕ) : Type 0 where
  hops : List Hop
  goes : GoesOn (tree_of_link link).nodes None (hops ++ hop_at link place ∷ [])
  sum : sum_along (flat (routes_of net)) (hops ++ hop_at link place ∷ []) (stays_along (stay_by net row) i (hops ++ hop_at link place ∷ [])) ≡ Fin (micros total)

sum_to : (net : Network) (row : ℕ → ℕ → Option Queue) (i place before : ℕ) (v : IsLiveLink net i) (queue : Queue) (hs : List Hop) → place < length v.link.nodes.items
    → row (node_at v.link place).port (node_at v.link place).queue ≡ Some queue
    → sum_along (flat (routes_of net)) hs (stays_along (stay_by net row) i hs) ≡ Fin (micros before)
    → sum_along (flat (routes_of net)) (hs ++ hop_at v.link place ∷ []) (stays_along (stay_by net row) i (hs ++ hop_at v.link place ∷ []))
    ≡ Fin (micros (before + queue.delay + (port_at net (node_at v.link place).port).link))
sum_to net row i place before v queue hs h is e =
    sum_more (flat (routes_of net)) (stay_by net row) i hs (hop_at v.link place)
    ∙ ap (λ z. z +ₑ (stay_by net row i s +ₑ Fin (link_at (flat (routes_of net)) s))) e
    ∙ ap (λ z. Fin (micros before) +ₑ (z +ₑ Fin (link_at (flat (routes_of net)) s))) stays
    ∙ ap (λ z. Fin (micros before) +ₑ (Fin (micros queue.delay) +ₑ Fin z)) link
    ∙ ap Fin (sym (add_assoc (micros before) (micros queue.delay) (micros l)) ∙ ap (λ z. z +ℚ micros l) (sym (micros_add before queue.delay))
    ∙ sym (micros_add (before + queue.delay) l))
  where
    s : ℕ
    s = (node_at v.link place).port

    l : ℕ
    l = (port_at net s).link

    stays : stay_by net row i s ≡ Fin (micros queue.delay)
    stays =
        ap (λ (t : Tree). delay_by row s (queue_at s (hops_in t.nodes))) v.tree
        ∙ ap (λ q. delay_by row s q) (queue_first v.link s v.link.nodes.items place h refl (λ j lt same. v.fits.once j place lt h same))
        ∙ ap delay_in is

    link : link_at (flat (routes_of net)) s ≡ micros l
    link = get_or-map link_time net.ports.items s no_port (int (pos 0)) (v.fits.nodes place h).port

chain : (net : Network) (row : ℕ → ℕ → Option Queue) (i : ℕ) (v : IsLiveLink net i) (bounds : List (Option ℕ)) → AreBounds net row v.link bounds
    → (n place total : ℕ) → place < n → place < length v.link.nodes.items → get_or bounds place None ≡ Some total → IsChain net row i v.link place total
chain net row i v bounds b zero place total less h e = absurd (omega (arith, less))
chain net row i v bounds b (suc n) place total less h e =
    by_from (λ f t early is. chain net row i v bounds b n f t (omega (arith, early, less)) (omega (arith, early, h)) is)
    (node_at v.link place).from refl (row s (node_at v.link place).queue) refl (sym (b.each place h) ∙ e)
  where
    s : ℕ
    s = (node_at v.link place).port

    l : ℕ
    l = (port_at net s).link

    from_is : tree_server_before s (tree_of_link v.link).nodes ≡ port_before v.link (node_at v.link place).from
    from_is = from_first v.link s v.link.nodes.items place h refl (λ j lt same. v.fits.once j place lt h same)

    passes : PassesServer s (hops_in (tree_of_link v.link).nodes)
    passes = at_passes v.link v.link.nodes.items place h

    Before : Type 0
    Before = (f t : ℕ) → f < place → get_or bounds f None ≡ Some t → IsChain net row i v.link f t

    after : (f before : ℕ) (queue : Queue) → IsChain net row i v.link f before → (node_at v.link place).from ≡ Some f
        → row s (node_at v.link place).queue ≡ Some queue → IsChain net row i v.link place (before + queue.delay + l)
    after f before queue c from is = record {
      hops = c.hops ++ hop_at v.link f ∷ [];
      goes = goes_more (tree_of_link v.link).nodes None c.hops (hop_at v.link f) (hop_at v.link place) c.goes passes (from_is ∙ ap (port_before v.link) from);
      sum = sum_to net row i place before v queue (c.hops ++ hop_at v.link f ∷ []) h is c.sum;
    }

    by_time : Before → (f : ℕ) → (node_at v.link place).from ≡ Some f → (o : Option ℕ) → get_or bounds f None ≡ o → (r : Option Queue)
        → row s (node_at v.link place).queue ≡ r → time_after o r l ≡ Some total → IsChain net row i v.link place total
    by_time rec f from None at r is t = absurd (let x : None ≡ Some total = t in cc)
    by_time rec f from (Some before) at None is t = absurd (let x : None ≡ Some total = t in cc)
    by_time rec f from (Some before) at (Some queue) is t =
        let P : Option ℕ → Type 0 = λ o. HangsBefore place o in
        let early : f < place = subst P from (v.fits.nodes place h).hangs in
        let same : before + queue.delay + l ≡ total = cc in
        subst (λ (k : ℕ). IsChain net row i v.link place k) same (after f before queue (rec f before early at) from is)

    by_from : Before → (from : Option ℕ) → (node_at v.link place).from ≡ from → (r : Option Queue) → row s (node_at v.link place).queue ≡ r
        → time_after (time_before bounds (node_at v.link place).from) (row s (node_at v.link place).queue) l ≡ Some total → IsChain net row i v.link place total
    by_from rec None from None is t = absurd (let x : None ≡ Some total = sym (ap (λ o. time_after (time_before bounds (node_at v.link place).from) o l) is ∙ ap (λ f. time_after (time_before bounds f) None l) from) ∙ t in cc)
    by_from rec None from (Some queue) is t =
        let x : Some (0 + queue.delay + l) ≡ Some total = sym (ap (λ o. time_after (time_before bounds (node_at v.link place).from) o l) is ∙ ap (λ f. time_after (time_before bounds f) (Some queue) l) from) ∙ t in
        let same : 0 + queue.delay + l ≡ total = cc in
        subst (λ (k : ℕ). IsChain net row i v.link place k) same record {
          hops = [];
          goes = (passes, from_is ∙ ap (port_before v.link) from, tt);
          sum = sum_to net row i place 0 v queue [] h is (ap Fin (sym no_time));
        }
    by_from rec (Some f) from r is t =
        by_time rec f from (get_or bounds f None) refl r is
        (sym (ap (λ o. time_after (time_before bounds (node_at v.link place).from) o l) is ∙ ap (λ k. time_after (time_before bounds k) r l) from) ∙ t)

-- ---- the whole promise
is_branch : (net : Network) (i : ℕ) (hs : List Hop) (last : Hop) → GoesOn (tree_of (routes_of net) i).nodes None (hs ++ last ∷ []) → IsBranch (routes_of net) i (hs ++ last ∷ [])
is_branch net i [] last g = g
is_branch net i (h ∷ hs) last g = g

link_of : (net : Network) (i : ℕ) (link : Link) → IsNetwork net → slice_get net.links.items i ≡ Some link → IsLiveLink net i
link_of net i link w e =
    let past = slice_get_cases net.links.items i in
    let is = get_or_from_slice_get net.links.items i link link e in
    let L : Link → Type 0 = λ x. IsLink net x in
    let few : i < length net.links.items = elim past.1 [
      | inl found ↦ found.1
      | inr over ↦ absurd (let f : None ≡ Some link = sym over.1 ∙ e in cc)
    ] in
    record { link = link; found = e; few = few; fits = subst L is (w.links i link few); tree = tree_at net i link few (sym is) }

branch_kept : (net : Network) (table : Table) (run : SpecRun) (i place bound : ℕ) → IsNetwork net → IsTableOf net table → IsRunOf net run → (v : IsLiveLink net i)
    → place < length v.link.nodes.items → get_or (bounds_in table i) place None ≡ Some bound
    → AreAtMost (Fin (micros bound)) (delays_to (routes_of net) run i (node_at v.link place).port)
branch_kept net table run i place bound w is r v h e =
    let c = chain net (row_in table) i v (bounds_in table i) (is.bounds i v.link v.found) (suc place) place bound (omega arith) h e in
    let hs = c.hops ++ hop_at v.link place ∷ [] in
    let G : Tree → Type 0 = λ t. GoesOn t.nodes None hs in
    let A : Ext → Type 0 = λ x. AreAtMost x (delays_to (routes_of net) run i (last_server hs)) in
    let B : ℕ → Type 0 = λ s. AreAtMost (Fin (micros bound)) (delays_to (routes_of net) run i s) in
    subst B (last_is c.hops (hop_at v.link place))
    (subst A c.sum ((all_bounded net table run w is r).trees.branches i hs (ap (λ (t : Tree). t.live) v.tree)
    (is_branch net i c.hops (hop_at v.link place) (subst G (sym v.tree) c.goes))))

pub tables_keep : TablesAreGuaranteed
unfolding link_of
tables_keep net table run w is r = record {
  queues = λ s q queue h e. queues_keep net table run s q queue w is r h e;
  branches = λ i place bound link found h e. branch_kept net table run i place bound w is r (link_of net i link w found) h e;
}
