-- The rates of links at queues, as they are added up.
use Rattle.std.proofs.Common.{◌≡◌, ◌≢◌, ◌⊎◌, ℕ, ◌<◌, ◌≤◌, ◌+◌, ◌*◌, ◌^◌, Bool, true, false, List, [], ◌∷◌, ◌++◌, length, get_or, set, take, map, replicate, Vec, refl, sym, ◌∙◌, ap, ap₂, subst, arith, inl, inr, length-append, ◌==◌}
use Rattle.std.specs.Prelude.{sum_by, All}
use Rattle.std.specs.Int.{div_ceil}
use Rattle.std.proofs.Math.Nat.{div-le_self, mul-le-mul_right}
use Rattle.std.proofs.lemmas.Bool.{cases_lt, cases_eq, cond-true, cond-false, and_from, and_left, and_right, eq-eqb, ne_eqb}
use Rattle.std.proofs.lemmas.List.{length-replicate, get_or-replicate, get_or_append_left, get_or_at, get_or-map, map-set, get_or-set_same, get_or-set_other, length-set, length-map, take_all, get_or_default}
use Rattle.std.proofs.lemmas.List.Sums.{sum_by_more, sum_by-le, sum_by-take-le}
use Rattle.tree_network.specs.Networks.{no_node, longest_frame, IsNetwork, IsLink, IsNodeAt}
use Rattle.tree_network.specs.declared.network.Port.{Port}
use Rattle.tree_network.specs.declared.network.Node.{Node}
use Rattle.tree_network.specs.declared.network.Link.{Link}
use Rattle.tree_network.specs.declared.network.Network.{Network}
use Rattle.tree_network.proofs.Distinct.{Apart, few}
use Rattle.tree_bounds.specs.Lines.{rate_of}
use Rattle.tree_bounds.specs.Tables.{items_of}
use Rattle.tree_bounds.specs.guarantee.Loads.{brought, brought_by, is_at}
use Rattle.bounds_command.specs.Loads.{AreRates, queues_in, at, with_more, rates_in}

-- ---- at no link
-- so many lists of nothing
pub record NoRates (ports : List Port) (k : ℕ) (rates : List (List ℕ)) : Type 0 where
  pub count : length rates ≡ k
  pub each : (s : ℕ) → s < k → get_or rates s [] ≡ replicate (queues_in ports s) 0

pub none_yet : (ports : List Port) → NoRates ports 0 []
none_yet ports = record { count = refl; each = λ s h. absurd (omega (arith, h)) }

pub port_more : (ports : List Port) (k : ℕ) (rates : List (List ℕ)) → NoRates ports k rates
    → NoRates ports (k + 1) (rates ++ replicate (queues_in ports k) 0 ∷ [])
port_more ports k rates old = record {
  count = length-append rates (replicate (queues_in ports k) 0 ∷ []) ∙ ap (λ n. n + 1) old.count;
  each = λ s h. at_place s h (cases_lt s k);
}
  where
    at_place : (s : ℕ) → s < k + 1 → (s < k) ⊎ (k ≤ s)
        → get_or (rates ++ replicate (queues_in ports k) 0 ∷ []) s [] ≡ replicate (queues_in ports s) 0
    at_place s h (inl l) =
        get_or_append_left rates (replicate (queues_in ports k) 0 ∷ []) [] s (omega (arith, l, old.count))
        ∙ old.each s l
    at_place s h (inr l) =
        let last : s ≡ k = omega (arith, l, h) in
        get_or_at rates (replicate (queues_in ports k) 0) [] [] s (old.count ∙ sym last)
        ∙ ap (λ n. replicate (queues_in ports n) 0) (sym last)

pub no_rates : (ports : List Port) (rates : List (List ℕ)) → NoRates ports (length ports) rates
    → AreRates ports [] rates
no_rates ports rates all = record {
  ports_all = all.count;
  queues_all = λ s h. ap length (all.each s h) ∙ length-replicate (queues_in ports s) 0;
  each = λ s q h k. ap (λ row. get_or row q 0) (all.each s h) ∙ get_or-replicate (queues_in ports s) q 0 0 k;
}

-- ---- a rate more
own : (rates : List (List ℕ)) (s q rate : ℕ) → s < length rates
    → get_or (with_more rates s q rate) s [] ≡ set (get_or rates s []) q (at rates s q + rate)
own rates s q rate h = get_or-set_same rates s (set (get_or rates s []) q (at rates s q + rate)) [] h

beside : (rates : List (List ℕ)) (s q rate i : ℕ) → i ≢ s → get_or (with_more rates s q rate) i [] ≡ get_or rates i []
beside rates s q rate i n = get_or-set_other rates s i (set (get_or rates s []) q (at rates s q + rate)) [] n

pub row_length : (rates : List (List ℕ)) (s q rate i : ℕ) → s < length rates
    → length (get_or (with_more rates s q rate) i []) ≡ length (get_or rates i [])
row_length rates s q rate i h = by_case (cases_eq i s)
  where
    by_case : (i ≡ s) ⊎ (i ≢ s) → length (get_or (with_more rates s q rate) i []) ≡ length (get_or rates i [])
    by_case (inl e) =
        ap (λ k. length (get_or (with_more rates s q rate) k [])) e ∙ ap length (own rates s q rate h)
        ∙ length-set (get_or rates s []) q (at rates s q + rate) ∙ ap (λ k. length (get_or rates k [])) (sym e)
    by_case (inr n) = ap length (beside rates s q rate i n)

pub at_more : (rates : List (List ℕ)) (node : Node) (rate i k : ℕ) → node.port < length rates
    → node.queue < length (get_or rates node.port [])
    → at (with_more rates node.port node.queue rate) i k ≡ at rates i k + brought i k rate node
at_more rates node rate i k h l = by_port (cases_eq i node.port)
  where
    s : ℕ
    s = node.port

    q : ℕ
    q = node.queue

    by_queue : i ≡ node.port → (k ≡ node.queue) ⊎ (k ≢ node.queue)
        → at (with_more rates node.port node.queue rate) i k ≡ at rates i k + brought i k rate node
    by_queue e (inl f) =
        let new : at (with_more rates node.port node.queue rate) node.port node.queue ≡ at rates node.port node.queue
        + rate =
        ap (λ row. get_or row node.queue 0) (own rates node.port node.queue rate h)
        ∙ get_or-set_same (get_or rates node.port []) node.queue (at rates node.port node.queue + rate) 0 l in
        let same : brought i k rate node ≡ rate = cond-true (is_at i k node) rate 0
        (and_from (node.port == i) (node.queue == k) (eq-eqb node.port i (sym e)) (eq-eqb node.queue k (sym f))) in
        ap₂ (λ a b. at (with_more rates node.port node.queue rate) a b) e f ∙ new
        ∙ ap₂ (λ a b. at rates a b + rate) (sym e) (sym f) ∙ ap (λ r. at rates i k + r) (sym same)
    by_queue e (inr n) =
        let new : at (with_more rates node.port node.queue rate) node.port k ≡ at rates node.port k =
        ap (λ row. get_or row k 0) (own rates node.port node.queue rate h)
        ∙ get_or-set_other (get_or rates node.port []) node.queue k (at rates node.port node.queue + rate) 0 n in
        let nothing : brought i k rate node ≡ 0 = cond-false (is_at i k node) rate 0
        (and_right (node.port == i) (node.queue == k) (ne_eqb node.queue k (λ same. n (sym same)))) in
        let moved = ap (λ a. at (with_more rates node.port node.queue rate) a k) e in
        let back = ap (λ a. at rates a k) (sym e) in
        omega (arith, moved, new, back, nothing)

    by_port : (i ≡ node.port) ⊎ (i ≢ node.port)
        → at (with_more rates node.port node.queue rate) i k ≡ at rates i k + brought i k rate node
    by_port (inl e) = by_queue e (cases_eq k node.queue)
    by_port (inr n) =
        let new = ap (λ row. get_or row k 0) (beside rates node.port node.queue rate i n) in
        let nothing : brought i k rate node ≡ 0 = cond-false (is_at i k node) rate 0
        (and_left (node.port == i) (node.queue == k) (ne_eqb node.port i (λ same. n (sym same)))) in
        omega (arith, new, nothing)

-- as the code keeps lists
pub more_is : {Z : Type 0} (vs : List (Vec ℕ Z)) (s q : ℕ) (v w : Vec ℕ Z) (n : ℕ) → s < length vs → v ≡ get_or vs s v
    → n ≡ get_or v.items q 0 → (rate : ℕ) → w.items ≡ set v.items q (n + rate)
    → items_of (set vs s w) ≡ with_more (items_of vs) s q rate
more_is {Z = Z} vs s q v w n l is old rate made =
    let row : get_or (items_of vs) s [] ≡ v.items =
    get_or-map (λ (x : Vec ℕ Z). x.items) vs s v [] l ∙ ap (λ (x : Vec ℕ Z). x.items) (sym is) in
    map-set (λ (x : Vec ℕ Z). x.items) vs s w
    ∙ ap (set (items_of vs) s) (made ∙ ap (λ m. set v.items q (m + rate)) old
    ∙ ap (λ xs. set xs q (get_or xs q 0 + rate)) (sym row))

-- ---- a link more
-- the rates of the first so many links, and that of the next one at the first so many of its nodes
pub record Adding (net : Network) (number rate k : ℕ) (nodes : List Node) (rates : List (List ℕ)) : Type 0 where
  pub ports_all : length rates ≡ length net.ports.items
  pub queues_all : (s : ℕ) → s < length net.ports.items → length (get_or rates s []) ≡ queues_in net.ports.items s
  pub each : (s q : ℕ) → s < length net.ports.items → q < queues_in net.ports.items s
      → at rates s q ≡ rates_in (take number net.links.items) s q + sum_by (brought s q rate) (take k nodes)

pub begun : (net : Network) (number rate : ℕ) (nodes : List Node) (rates : List (List ℕ))
    → AreRates net.ports.items (take number net.links.items) rates → Adding net number rate 0 nodes rates
begun net number rate nodes rates old = record {
  ports_all = old.ports_all;
  queues_all = old.queues_all;
  each = λ s q h l. let e = old.each s q h l in omega (arith, e);
}

pub node_more : (net : Network) (number rate k : ℕ) (nodes : List Node) (rates : List (List ℕ)) → k < length nodes
    → (get_or nodes k no_node).port < length net.ports.items
    → (get_or nodes k no_node).queue < queues_in net.ports.items (get_or nodes k no_node).port
    → Adding net number rate k nodes rates
    → Adding net number rate (k + 1) nodes (with_more rates (get_or nodes k no_node).port
    (get_or nodes k no_node).queue rate)
node_more net number rate k nodes rates inside port queue old =
    let node = get_or nodes k no_node in
    let s = node.port in
    let q = node.queue in
    let known : s < length rates = omega (arith, port, old.ports_all) in
    let long = old.queues_all s port in
    let there : q < length (get_or rates s []) = omega (arith, queue, long) in
    record {
      ports_all = length-set rates s (set (get_or rates s []) q (at rates s q + rate)) ∙ old.ports_all;
      queues_all = λ i h. row_length rates s q rate i known ∙ old.queues_all i h;
      each = λ i j h l.
          let new = at_more rates node rate i j known there in
          let was = old.each i j h l in
          let sum = sum_by_more (brought i j rate) nodes k no_node inside in
          omega (arith, new, was, sum);
    }

pub link_more : (net : Network) (number rate k : ℕ) (link : Link) (rates : List (List ℕ))
    → number < length net.links.items
    → link ≡ get_or net.links.items number link → rate ≡ rate_of link → k ≡ length link.nodes.items
    → Adding net number rate k link.nodes.items rates
    → AreRates net.ports.items (take (number + 1) net.links.items) rates
link_more net number rate k link rates inside is fast all done = record {
  ports_all = done.ports_all;
  queues_all = done.queues_all;
  each = λ s q h l.
      let e = done.each s q h l in
      let whole = ap (sum_by (brought s q rate)) (take_all k link.nodes.items (omega (arith, all))) in
      let by_rate = ap (λ r. sum_by (brought s q r) link.nodes.items) fast in
      let more = sum_by_more (λ x. brought_by s q x) net.links.items number link inside in
      let this = ap (λ x. brought_by s q x) is in
      omega (arith, e, whole, by_rate, more, this);
}

-- ---- in range
ceil_le : (n d : ℕ) → div_ceil n d ≤ n + 1
ceil_le n d = let q = div-le_self n d in omega (arith, q)

abbrev pub fastest_link : ℕ
fastest_link = 2 ^ 34 * 10 ^ 12 + 1

pub rate_small : (net : Network) (link : Link) → IsLink net link → rate_of link ≤ fastest_link
unfolding longest_frame
rate_small net link is =
    let c = ceil_le (link.frame * 1024 * 10 ^ 12) link.gap in
    omega (arith, c, is.frame)

pub few_nodes : (net : Network) (link : Link) → IsNetwork net → IsLink net link → length link.nodes.items ≤ 4096
few_nodes net link w is =
    let ports = map (λ (n : Node). n.port) link.nodes.items in
    let long = length-map link.nodes.items (λ (n : Node). n.port) in
    let port_of = λ (i : ℕ) (h : i < length link.nodes.items).
    get_or-map (λ (n : Node). n.port) link.nodes.items i no_node 0 h in
    let apart : Apart ports = record {
      once = λ i j early h same.
          let jh : j < length link.nodes.items = omega (arith, h, long) in
          let ih : i < length link.nodes.items = omega (arith, jh, early) in
          is.once i j early jh (sym (port_of i ih) ∙ same ∙ port_of j jh);
    } in
    let small = λ (i : ℕ) (h : i < length ports).
    let ih : i < length link.nodes.items = omega (arith, h, long) in
    let e = port_of i ih in
    let p = (is.nodes i ih).port in
    let P : ℕ → Type 0 = λ n. n < length net.ports.items in
    subst P (sym e) p in
    let most = few ports (length net.ports.items) apart small in
    omega (arith, most, long, w.few_ports)

brought_small : (s q rate : ℕ) (node : Node) → brought s q rate node ≤ rate
brought_small s q rate node = by_test (is_at s q node) refl
  where
    by_test : (b : Bool) → is_at s q node ≡ b → brought s q rate node ≤ rate
    by_test true e = rw e (omega arith)
    by_test false e = rw e (omega arith)

pub nodes_small : (s q rate : ℕ) (nodes : List Node) → length nodes ≤ 4096 → rate ≤ fastest_link
    → sum_by (brought s q rate) nodes ≤ 4096 * fastest_link
nodes_small s q rate nodes short slow =
    let each = sum_by-le (brought s q rate) rate nodes (λ k d h. brought_small s q rate (get_or nodes k d)) in
    let a = mul-le-mul_right rate short in
    omega (arith, each, a, slow)

pub links_small : (net : Network) (links : List Link) (s q : ℕ) → IsNetwork net → All (IsLink net) links
    → length links ≤ 16384
    → rates_in links s q ≤ 16384 * (4096 * fastest_link)
links_small net links s q w all short =
    let each = sum_by-le (λ x. brought_by s q x) (4096 * fastest_link) links
    (λ k d h. let is = all k d h in
    nodes_small s q (rate_of (get_or links k d)) (get_or links k d).nodes.items (few_nodes net (get_or links k d) w is)
    (rate_small net (get_or links k d) is)) in
    omega (arith, each, short)

pub rates_fit : (net : Network) (rates : List (List ℕ)) (s k d : ℕ) → IsNetwork net
    → AreRates net.ports.items net.links.items rates
    → s < length net.ports.items → k < length (get_or rates s []) → get_or (get_or rates s []) k d < 2 ^ 100
rates_fit net rates s k d w is h inside =
    let long = is.queues_all s h in
    let value = is.each s k h (omega (arith, inside, long)) in
    let same = get_or_default (get_or rates s []) k d 0 inside in
    let few = links_small net net.links.items s k w w.links w.few_links in
    omega (arith, value, same, few)

pub frame_small : (net : Network) (link : Link) → IsLink net link → link.frame ≤ 2 ^ 24
unfolding longest_frame
frame_small net link is = is.frame

-- a node more: the sum fits 128 bits
pub record AddsNode (net : Network) (number rate k : ℕ) (nodes : List Node) (rates : List (List ℕ)) : Type 0 where
  pub fits : at rates (get_or nodes k no_node).port (get_or nodes k no_node).queue + rate < 2 ^ 128
  pub next : Adding net number rate (k + 1) nodes
      (with_more rates (get_or nodes k no_node).port (get_or nodes k no_node).queue rate)

pub adds_node : (net : Network) (number rate k : ℕ) (nodes : List Node) (link : Link) (rates : List (List ℕ))
    → IsNetwork net → IsLink net link
    → nodes ≡ link.nodes.items → rate ≡ rate_of link → k < length nodes → Adding net number rate k nodes rates
    → AddsNode net number rate k nodes rates
adds_node net number rate k nodes link rates w is same fast h old =
    let node = get_or nodes k no_node in
    let s = node.port in
    let q = node.queue in
    let long = ap length same in
    let inside : k < length link.nodes.items = omega (arith, h, long) in
    let N : Node → Type 0 = λ n. IsNodeAt net link k n in
    let known = subst N (sym (ap (λ (ns : List Node). get_or ns k no_node) same)) (is.nodes k inside) in
    let value = old.each s q known.port known.queue in
    let slow = rate_small net link is in
    let few = few_nodes net link w is in
    let before = sum_by-take-le (λ (x : Link). brought_by s q x) net.links.items number in
    let all = links_small net net.links.items s q w w.links w.few_links in
    let here = sum_by-take-le (brought s q rate) nodes k in
    let these = nodes_small s q rate nodes (omega (arith, few, long)) (omega (arith, fast, slow)) in
    record {
      fits = omega (arith, value, before, all, here, these, fast, slow);
      next = node_more net number rate k nodes rates h known.port known.queue old;
    }
