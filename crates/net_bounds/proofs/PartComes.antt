-- In version 2 a queue keeps the sum of its parts: those that come over a link keep the bucket of the server before, too.
use Rattle.std.specs.Prelude.{◌≡◌, ◌<◌, ◌≤◌, ℕ, zero, suc, Bool, true, ◌==◌, ◌&&◌, nat_lt, pos, Some, None, List, [], ◌∷◌, ◌++◌, length, if◌then◌else◌}
use Rattle.std.proofs.Common.{arith, sym, ap, ◌∙◌, refl, subst, inl, inr, get_or}
use Rattle.std.proofs.lemmas.Bool.{cases_Bool, cases_eq, eqb-true, eq-eqb, ne_eqb, lt-ltb, ltb-true, and_parts, and_from}
use Rattle.rational.specs.Rational.{ℚ, int, ◌-ℚ◌, ◌≤ℚ◌}
use Rattle.rational.specs.declared.Extended.TheVariants.{Fin}
use Rattle.rational.proofs.Laws.{le_of_lt}
use Rattle.rational.proofs.ExtendedOrder.{min_greatest}
use Rattle.run_laws.specs.Runs.{SpecRun}
use Rattle.run_laws.specs.Cards.{Card, of_queue}
use Rattle.run_laws.specs.Servers.{Fifo, Server}
use Rattle.run_laws.specs.Counts.{arrived_in}
use Rattle.run_laws.specs.Premises.{KeepsArrivals, KeepsSizes}
use Rattle.run_laws.specs.Routes.{Hop, server_at}
use Rattle.run_laws.proofs.Arrivals.{IsPassing, arrivals_map}
use Rattle.run_laws.proofs.Members.{Has}
use Rattle.net_laws.specs.Laws.{IsLink}
use Rattle.net_laws.proofs.Paths.{link_of_path}
use Rattle.net_laws.specs.paces.Groups.{of_flows, IsPaced}
use Rattle.net_laws.proofs.paces.Groups.{group_is_cut}
use Rattle.net_model.specs.Networks.{Net}
use Rattle.net_model.specs.Accepted.{IsAccepted}
use Rattle.net_cells.specs.Numbered.{packet, path, hops, rate, rate_of, server_of_hop, queue_of_hop}
use Rattle.net_cells.specs.declared.visit.Visit.{Visit}
use Rattle.net_cells.specs.Visits.{visit, visits, visits_in, longest_of}
use Rattle.net_cells.specs.QueueParts.{part_of, in_part, part_numbers}
use Rattle.net_cells.specs.Meanings.{CellTable}
use Rattle.net_cells.proofs.Lists.{has_filter, filter_has, has_range, range_has}
use Rattle.net_cells.proofs.Places.{has_visit}
use Rattle.net_cells.proofs.PartCounts.{part_next, part_small}
use Rattle.net_bounds.specs.NetRuns.{hops_along, pace_for, server_for, routes_of}
use Rattle.net_bounds.specs.Promises.{seen_by}
use Rattle.net_bounds.proofs.Placed.{place_in}
use Rattle.net_bounds.proofs.Routed.{hop_at, hops_is, own_queues, path_is, live_is, hop_is_live, routed, known_server, server_read, servers_are}
use Rattle.net_bounds.proofs.ListSums.{sum_over, HasKey, list_keeps}
use Rattle.net_bounds.proofs.QueueCells.{arriving_at}
use Rattle.net_bounds.proofs.PartCells.{with_hops, listed, link_bucket, part_over, total_over}
use Rattle.net_bounds.proofs.Arriving.{AtServer, flow_comes, all_passing, IsVisiting, all_visiting, card_visit, has_in, visit_in, has_key}
use Rattle.net_bounds.proofs.Sizes.{longest_most}

-- ---- where a flow is
-- a place on the path is that of the server
place_stands : (s : ℕ) (xs : List ℕ) → place_in s xs < length xs → get_or xs (place_in s xs) 0 ≡ s
place_stands s [] h = absurd (omega (arith, h))
place_stands s (x ∷ xs) h = elim (cases_eq x s) [
  | inl e ↦ rw (eq-eqb x s e) e
  | inr n ↦
      let later : place_in s (x ∷ xs) ≡ suc (place_in s xs) = rw (ne_eqb x s n) refl in
      rw later (place_stands s xs (omega (arith, h, later)))
]

-- the part of queue q of server s in which flow i comes; past the last where it does not
part_at : Net → (s q i : ℕ) → ℕ
part_at net s q i =
    if nat_lt (hop_at net i s) (hops net i) && (queue_of_hop net i (hop_at net i s) == q)
    then part_of net (visit i (hop_at net i s))
    else suc (length net.servers)

record IsInPart (net : Net) (s q k i : ℕ) : Type 0 where
  within : hop_at net i s < hops net i
  queue : queue_of_hop net i (hop_at net i s) ≡ q
  part : part_of net (visit i (hop_at net i s)) ≡ k

at_part : (net : Net) (s q k i : ℕ) → k < suc (length net.servers) → part_at net s q i ≡ k → IsInPart net s q k i
unfolding part_at
at_part net s q k i small e = elim (cases_Bool (nat_lt (hop_at net i s) (hops net i) && (queue_of_hop net i (hop_at net i s) == q))) [
  | inl t ↦
      let both = and_parts (nat_lt (hop_at net i s) (hops net i)) (queue_of_hop net i (hop_at net i s) == q) t in
      record {
        within = ltb-true (hop_at net i s) (hops net i) both.0;
        queue = eqb-true (queue_of_hop net i (hop_at net i s)) q both.1;
        part = rw t at e;
      }
  | inr f ↦
      let past : suc (length net.servers) ≡ k = rw f at e in
      absurd (omega arith)
]

part_is : (net : Net) (s q i : ℕ) → hop_at net i s < hops net i → queue_of_hop net i (hop_at net i s) ≡ q
    → part_at net s q i ≡ part_of net (visit i (hop_at net i s))
unfolding part_at
part_is net s q i h e =
    rw (and_from (nat_lt (hop_at net i s) (hops net i)) (queue_of_hop net i (hop_at net i s) == q) (lt-ltb (hop_at net i s) (hops net i) h)
    (eq-eqb (queue_of_hop net i (hop_at net i s)) q e)) refl

-- its hop is in the part
in_part_has : (net : Net) (s q k i : ℕ) → IsInPart net s q k i → Has (in_part net s q k) (visit i (hop_at net i s))
in_part_has net s q k i h =
    let v = visit i (hop_at net i s) in
    let there = has_visit net s i (hop_at net i s) h.within (place_stands s (path net i) h.within) in
    let here = has_filter (λ (u : Visit). queue_of_hop net u.flow u.hop == q) (visits net s) v there (eq-eqb (queue_of_hop net i (hop_at net i s)) q h.queue) in
    has_filter (λ (u : Visit). part_of net u == k) (visits_in net s q) v here (eq-eqb (part_of net v) k h.part)

-- ---- the server before
record SplitsAt (path queues : List ℕ) (j : ℕ) : Type 0 where
  done : List Hop
  here : Hop
  next : Hop
  rest : List Hop
  is : hops_along path queues ≡ done ++ here ∷ next ∷ rest
  from : here.server ≡ get_or path j 0
  to : next.server ≡ get_or path (suc j) 0

splits_at : (path queues : List ℕ) (j : ℕ) → suc j < length path → length queues ≡ length path → SplitsAt path queues j
splits_at [] queues j h e = absurd (omega (arith, h))
splits_at (a ∷ []) queues j h e = absurd (omega (arith, h))
splits_at (a ∷ b ∷ path) [] j h e = absurd (omega (arith, e))
splits_at (a ∷ b ∷ path) (p ∷ []) j h e = absurd (omega (arith, e))
splits_at (a ∷ b ∷ path) (p ∷ q ∷ queues) zero h e = record {
  done = [];
  here = record { server = a; queue = p };
  next = record { server = b; queue = q };
  rest = hops_along path queues;
  is = refl;
  from = refl;
  to = refl;
}
splits_at (a ∷ b ∷ path) (p ∷ q ∷ queues) (suc j) h e =
    let s = splits_at (b ∷ path) (q ∷ queues) j (omega (arith, h)) (omega (arith, e)) in
    record {
      done = record { server = a; queue = p } ∷ s.done;
      here = s.here;
      next = s.next;
      rest = s.rest;
      is = ap (λ (hs : List Hop). record { server = a; queue = p } ∷ hs) s.is;
      from = s.from;
      to = s.to;
    }

-- what part p + 1 says of a hop
record ComesFrom (net : Net) (v : Visit) (p : ℕ) : Type 0 where
  hop : ℕ
  is : v.hop ≡ suc hop
  server : server_of_hop net v.flow hop ≡ p

comes_from : (net : Net) (i k p : ℕ) → part_of net (visit i k) ≡ suc p → ComesFrom net (visit i k) p
comes_from net i zero p e = absurd (cc)
comes_from net i (suc j) p e =
    let same : suc (server_of_hop net i j) ≡ suc p = sym (part_next net i j) ∙ e in
    record { hop = j; is = refl; server = cc }

part_link : (net : Net) (s q p i : ℕ) → IsAccepted net → IsInPart net s q (suc p) i → IsLink (routes_of net) i p s
part_link net s q p i a h =
    let c = comes_from net i (hop_at net i s) p h.part in
    let live = hop_is_live net i (hop_at net i s) h.within in
    let on = routed net i a live in
    let bounded : suc c.hop < hops net i = subst (λ (m : ℕ). m < hops net i) c.is h.within in
    let s_at : server_of_hop net i (suc c.hop) ≡ s = subst (λ (m : ℕ). server_of_hop net i m ≡ s) c.is (place_stands s (path net i) h.within) in
    let split = splits_at (path net i) (own_queues net i) c.hop bounded on.paired in
    let link = link_of_path (routes_of net) i split.done split.here split.next split.rest (path_is net i a (live_is net i ∙ live)) (hops_is net i ∙ split.is) in
    subst (λ (b : ℕ). IsLink (routes_of net) i p b) (split.to ∙ s_at)
    (subst (λ (b : ℕ). IsLink (routes_of net) i b split.next.server) (split.from ∙ c.server) link)

-- ---- the parts keep their curves
abbrev is_of : Net → (s q k : ℕ) → ℕ → Bool
is_of net s q k i = part_at net s q i == k

in_it : (net : Net) (s q k i : ℕ) → k < suc (length net.servers) → is_of net s q k i ≡ true → IsInPart net s q k i
in_it net s q k i small e = at_part net s q k i small (eqb-true (part_at net s q i) k e)

part_flows : (net : Net) (at : CellTable) (run : SpecRun) (s q k : ℕ) → AtServer net at run s → k < suc (length net.servers)
    → KeepsArrivals (of_flows (is_of net s q k)) (sum_over (arriving_at at) (in_part net s q k)) (seen_by net run s)
part_flows net at run s q k w small =
    let V = seen_by net run s in
    let vs = in_part net s q k in
    let known = arrivals_map (IsVisiting net s) (λ c. of_flows (is_of net s q k) c ≡ true → HasKey (λ (v : Visit). v.flow) vs c.flow)
    (λ c v e. has_key (λ (u : Visit). u.flow) vs (visit c.flow (hop_at net c.flow s)) c.flow (in_part_has net s q k c.flow (in_it net s q k c.flow small e)) refl)
    V (all_visiting net at run s w) in
    list_keeps (λ (v : Visit). v.flow) (arriving_at at) (λ c. c.flow) vs (of_flows (is_of net s q k)) V known
    (λ v m. let is = visit_in net s q v (filter_has (λ (u : Visit). part_of net u == k) (visits_in net s q) v m).0 in
    flow_comes net at run s v.flow v.hop w is.within is.server)

part_sizes : (net : Net) (at : CellTable) (run : SpecRun) (s q k p : ℕ) → AtServer net at run s → k < suc (length net.servers)
    → KeepsSizes (of_flows (is_of net s q k)) (longest_of net (in_part net s q k)) (seen_by net run p)
part_sizes net at run s q k p w small =
    arrivals_map (IsPassing (routes_of net) (packet net) p) (λ c. of_flows (is_of net s q k) c ≡ true → c.bits ≤ longest_of net (in_part net s q k))
    (λ c own e.
    let most = longest_most net (in_part net s q k) (visit c.flow (hop_at net c.flow s)) (in_part_has net s q k c.flow (in_it net s q k c.flow small e)) in
    let little = own.small in
    omega arith)
    (seen_by net run p) (all_passing net run p w.run_of)

paced : (net : Net) (at : CellTable) (run : SpecRun) (s q p : ℕ) → AtServer net at run s → net.version ≡ 2 → p < length net.servers
    → IsPaced (routes_of net) run (is_of net s q (suc p)) p (longest_of net (in_part net s q (suc p))) (rate net p)
paced net at run s q p w second l =
    let it = known_server net p w.accepted l in
    let here : server_at (routes_of net) p ≡ server_for net.version it.server =
    server_read net.version net.servers p it.server record { discipline = Fifo; pace = None } it.is in
    let its_rate : rate net p ≡ it.server.rate = ap rate_of it.is in
    record {
      known = subst (λ (n : ℕ). p < n) (sym (servers_are net)) l;
      pace = ap (λ (x : Server). x.pace) here ∙ ap (λ (v : ℕ). pace_for v it.server.rate) second ∙ ap (λ (x : ℚ). Some x) (sym its_rate);
      some = subst (λ (x : ℚ). int (pos 0) ≤ℚ x) (sym its_rate) (le_of_lt it.keeps.rate);
      sizes = part_sizes net at run s q (suc p) p w (omega (arith, l));
    }

part_keeps : (net : Net) (at : CellTable) (run : SpecRun) (s q k : ℕ) → AtServer net at run s → net.version ≡ 2 → k < suc (length net.servers)
    → KeepsArrivals (of_flows (is_of net s q k)) (part_over net at s q k) (seen_by net run s)
part_keeps net at run s q zero w second small a b l = part_flows net at run s q zero w small a b l
part_keeps net at run s q (suc p) w second small a b l =
    let vs = in_part net s q (suc p) in
    let V = seen_by net run s in
    min_greatest (sum_over (arriving_at at) vs (b -ℚ a)) (link_bucket net p vs (b -ℚ a)) (Fin (arrived_in (of_flows (is_of net s q (suc p))) V a b))
    (part_flows net at run s q (suc p) w small a b l)
    (group_is_cut (routes_of net) run (is_of net s q (suc p)) p s (longest_of net vs) (rate net p) w.run_of.lawful
    (paced net at run s q p w second (omega (arith, small)))
    (λ i e. part_link net s q p i w.accepted (in_it net s q (suc p) i small e)) a b l)

-- ---- each packet of the queue is in a part
listed_has : (net : Net) (s q : ℕ) (ks : List ℕ) (k : ℕ) (v : Visit) → Has ks k → Has (in_part net s q k) v → Has (listed net s q ks) k
listed_has net s q [] k v h m = absurd h
listed_has net s q (j ∷ ks) k v h m = one (in_part net s q j) refl (λ later. listed_has net s q ks k v later m) h
  where
    one : (vs : List Visit) → in_part net s q j ≡ vs → (Has ks k → Has (listed net s q ks) k) → Has (j ∷ ks) k → Has (with_hops j vs (listed net s q ks)) k
    one [] e rest (inl same) =
        let none : Has [] v = subst (λ (ws : List Visit). Has ws v) (ap (in_part net s q) (sym same) ∙ e) m in
        absurd none
    one [] e rest (inr later) = rest later
    one (u ∷ vs) e rest (inl same) = inl same
    one (u ∷ vs) e rest (inr later) = inr (rest later)

has_listed : (net : Net) (s q : ℕ) (ks : List ℕ) (k : ℕ) → Has (listed net s q ks) k → Has ks k
has_listed net s q [] k m = m
has_listed net s q (j ∷ ks) k m = one (in_part net s q j) (λ later. has_listed net s q ks k later) m
  where
    one : (vs : List Visit) → (Has (listed net s q ks) k → Has ks k) → Has (with_hops j vs (listed net s q ks)) k → Has (j ∷ ks) k
    one [] rest n = inr (rest n)
    one (u ∷ vs) rest (inl same) = inl same
    one (u ∷ vs) rest (inr later) = inr (rest later)

pub parts_keep : (net : Net) (at : CellTable) (run : SpecRun) (s q : ℕ) → AtServer net at run s → net.version ≡ 2
    → KeepsArrivals (of_queue q) (total_over true net at s q) (seen_by net run s)
parts_keep net at run s q w second =
    let V = seen_by net run s in
    let ks = listed net s q (part_numbers net) in
    let known = arrivals_map (IsVisiting net s) (λ c. of_queue q c ≡ true → HasKey (λ (k : ℕ). k) ks (part_at net s q c.flow))
    (λ c v e. has_part c v (eqb-true c.queue q e)) V (all_visiting net at run s w) in
    list_keeps (λ (k : ℕ). k) (part_over net at s q) (λ c. part_at net s q c.flow) ks (of_queue q) V known
    (λ k m. part_keeps net at run s q k w second (small_of k m))
  where
    has_part : (c : Card) → IsVisiting net s c → c.queue ≡ q → HasKey (λ (k : ℕ). k) (listed net s q (part_numbers net)) (part_at net s q c.flow)
    has_part c v e =
        let is = part_is net s q c.flow v.within (v.queue ∙ e) in
        let k = part_of net (card_visit net s c) in
        let small = part_small net c.flow (hop_at net c.flow s) w.accepted v.within in
        let there = has_filter (λ (u : Visit). part_of net u == k) (visits_in net s q) (card_visit net s c) (has_in net s q c v e) (eq-eqb k k refl) in
        has_key (λ (j : ℕ). j) (listed net s q (part_numbers net)) k (part_at net s q c.flow)
        (listed_has net s q (part_numbers net) k (card_visit net s c) (has_range 0 (suc (length net.servers)) k (omega arith) (omega (arith, small))) there)
        (sym is)

    small_of : (k : ℕ) → Has (listed net s q (part_numbers net)) k → k < suc (length net.servers)
    small_of k m = let r = range_has 0 (suc (length net.servers)) k (has_listed net s q (part_numbers net) k m) in omega (arith, r.1)
