-- What a cell is made of stands before it in the order.
use Rattle.std.proofs.Common.{◌≡◌, ℕ, zero, suc, ◌<◌, ◌≤◌, ◌+◌, ◌-◌, List, [], ◌∷◌, ◌++◌, length, get_or, map, take, refl, sym, ap, ◌∙◌, subst, arith, inl, inr, ◌⊎◌, true, false}
use Rattle.std.specs.Prelude.{Bool, is_some, ◌&&◌, Option, Some, None, not, ◌==◌, slice_index, nat_lt}
use Rattle.std.specs.List.{flat_map, range_with_len}
use Rattle.std.proofs.lemmas.Bool.{lt-ltb, ltb-true, eqb-true, and_parts}
use Rattle.std.proofs.lemmas.List.{get_or_default}
use Rattle.upp_limits.specs.declared.op_kind.OpKind.TheVariants.{Sum}
use Rattle.run_laws.specs.Servers.{Discipline, Fifo, Priority, Drr, queue_count}
use Rattle.net_model.specs.Networks.{Net, NetServer, NetFlow}
use Rattle.net_model.specs.Accepted.{IsAccepted, HasFewQueues}
use Rattle.net_model.specs.Orders.{IsOrder}
use Rattle.net_model.specs.Walks.{IsNext}
use Rattle.net_model.proofs.net_graph.Forward.{goes_forward}
use Rattle.net_cells.specs.declared.cell.Cell.{Cell}
use Rattle.net_cells.specs.declared.cell.Kind.{Kind}
use Rattle.net_cells.specs.declared.cell.Kind.TheVariants.{In, Cross, Total, Higher, QueueService, Theta, Residual, QueueDelay, QueueBacklog, HopDelay, ShiftOut, DeconvOut, Out, PathService, Tfa, Sfa, Bound}
use Rattle.net_cells.specs.declared.cell.Scope.{Scope}
use Rattle.net_cells.specs.declared.cell.Scope.TheVariants.{EachHop, EachHopButLast, EachQueue, EachPath}
use Rattle.net_cells.specs.Numbered.{flow_at, path_of, hops, server_of_hop, queue_of_hop, queues, levels, levels_of, is_live, discipline, discipline_of}
use Rattle.net_cells.specs.Visits.{Visit, visits, visits_in, others}
use Rattle.net_cells.specs.QueueParts.{part_of, in_part, part_numbers, by_parts}
use Rattle.net_cells.specs.Cells.{cell_of, scope_of, is_in_scope, has_cell, server_kinds, path_kinds}
use Rattle.net_cells.specs.Order.{at_visit, evaluation_order, server_cells, kind_cells, path_cells}
use Rattle.net_cells.specs.Formulas.{Formula, leaves, made, value_of}
use Rattle.net_cells.specs.CellFormulas.{formula, total, sum_of_cells, sum_from, queue_service, less}
use Rattle.net_cells.specs.Laws.{OperandsComeFirst, OperandsAreCells}
use Rattle.net_cells.proofs.LeavesOf.{parts_leaves, served_leaves}
use Rattle.net_cells.proofs.Lists.{Before, map_has, flat_has, filter_has, range_has, before_left, before_right, before_across, before_flat, before_inside, before_place, before_split, Apart}
use Rattle.net_cells.proofs.Places.{flow_inside, live_inside, visit_has, home, home_in, rank, kinds_before, path_kinds_before, IsHome, has_kind, has_server, has_path}
use Rattle.net_cells.proofs.Members.{hop_of, hop_kept, home_inside, home_in_order, order_has, apart_cells}
use Rattle.run_laws.proofs.Members.{Has, has_right, has_either, has_flat, contains_has, has_contains}

-- ---- both in the order
abbrev All : Net → List ℕ → List Cell
All net order = flat_map (server_cells net) order ++ flat_map (path_cells net) path_kinds

-- a network that is kept, with an order of its servers
record Ordered (net : Net) (order : List ℕ) : Type 0 where
  kept : IsAccepted net
  is : IsOrder net order

in_it : (net : Net) (order : List ℕ) (s : ℕ) (c : Cell) → Ordered net order → IsHome net s c → Has order s
in_it net order s c o h =
    subst (Has order) h.at_home
    (home_in_order net order (home net c) o.is (home_inside net (scope_of c.kind) c.a c.b o.kept h.exists h.no_path))

-- at one server, by their kinds
at_one : (net : Net) (order : List ℕ) (s : ℕ) (c d : Cell) → Ordered net order → IsHome net s c → IsHome net s d
    → rank d.kind < rank c.kind → rank c.kind < 13 → Before d c (All net order)
at_one net order s c d o p q k l =
    before_left d c (flat_map (server_cells net) order) (flat_map (path_cells net) path_kinds)
    (before_inside (server_cells net) s d c order (in_it net order s c o p)
    (before_flat (kind_cells net s) d.kind c.kind d c server_kinds (kinds_before d.kind c.kind k l) (has_kind net s d q)
    (has_kind net s c p)))

-- at two servers of which the second comes later
at_two : (net : Net) (order : List ℕ) (t s : ℕ) (c d : Cell) → Before t s order → IsHome net s c → IsHome net t d
    → Before d c (All net order)
at_two net order t s c d k p q =
    before_left d c (flat_map (server_cells net) order) (flat_map (path_cells net) path_kinds)
    (before_flat (server_cells net) t s d c order k (has_server net t d q) (has_server net s c p))

-- at a server and of a whole path
at_last : (net : Net) (order : List ℕ) (s : ℕ) (c d : Cell) → Ordered net order → IsHome net s d
    → Has (flat_map (path_cells net) path_kinds) c → Before d c (All net order)
at_last net order s c d o q p =
    before_across d c (flat_map (server_cells net) order) (flat_map (path_cells net) path_kinds)
    (has_flat (server_cells net) order s d (in_it net order s d o q) (has_server net s d q)) p

-- of one whole path, by their kinds
on_path : (net : Net) (order : List ℕ) (i : ℕ) (j k : Kind) → is_live net i ≡ true → 13 ≤ rank j → rank j < rank k
    → rank k < 17 → Before (cell_of j i 0) (cell_of k i 0) (All net order)
on_path net order i j k h low less high =
    before_right (cell_of j i 0) (cell_of k i 0) (flat_map (server_cells net) order)
    (flat_map (path_cells net) path_kinds)
    (before_flat (path_cells net) j k (cell_of j i 0) (cell_of k i 0) path_kinds (path_kinds_before j k low less high)
    (has_path net j i h) (has_path net k i h))

-- ---- cells that there are
at_hop : (net : Net) (kind : Kind) (i k s : ℕ) → scope_of kind ≡ EachHop → k < hops net i → server_of_hop net i k ≡ s
    → IsHome net s (cell_of kind i k)
at_hop net kind i k s e h is = record {
  exists = subst (λ (c : Scope). is_in_scope net c i k ≡ true) (sym e) (lt-ltb k (hops net i) h);
  at_home = subst (λ (c : Scope). home_in net c i k ≡ s) (sym e) is;
  no_path = λ p. let bad : EachHop ≡ EachPath = sym e ∙ p in cc;
}

at_queue : (net : Net) (kind : Kind) (s q : ℕ) → scope_of kind ≡ EachQueue → q < queues net s
    → IsHome net s (cell_of kind s q)
at_queue net kind s q e h = record {
  exists = subst (λ (c : Scope). is_in_scope net c s q ≡ true) (sym e) (lt-ltb q (queues net s) h);
  at_home = subst (λ (c : Scope). home_in net c s q ≡ s) (sym e) refl;
  no_path = λ p. let bad : EachQueue ≡ EachPath = sym e ∙ p in cc;
}

-- the queue of a hop
queue_exists : (net : Net) (i k : ℕ) → IsAccepted net → k < hops net i
    → queue_of_hop net i k < queues net (server_of_hop net i k)
queue_exists net i k a h =
    let hop = hop_kept net i k a h in
    subst (λ (o : Option NetServer). queue_of_hop net i k < queue_count (discipline_of o)) (sym hop.is) hop.has_queue

pub levels_at_most : (d : Discipline) → levels_of d ≤ queue_count d
levels_at_most Fifo = omega arith
levels_at_most (Priority n) = omega arith
levels_at_most (Drr quanta) = omega arith

-- where some are served by priority, all are
pub levels_are : (d : Discipline) (q : ℕ) → q < levels_of d → levels_of d ≡ queue_count d
levels_are Fifo q h = absurd (omega (arith, h))
levels_are (Priority n) q h = refl
levels_are (Drr quanta) q h = absurd (omega (arith, h))

pub levels_few : (d : Discipline) → HasFewQueues d → levels_of d ≤ 8
levels_few Fifo h = omega arith
levels_few (Priority n) h = h.1
levels_few (Drr quanta) h = omega arith

-- ---- sums
sum_leaves : (F : Formula) (cs : List Cell) (d : Cell) → Has (leaves (sum_from F cs)) d → Has (leaves F) d ⊎ Has cs d
sum_leaves F [] d h = inl h
sum_leaves F (c ∷ cs) d h = elim (sum_leaves (made Sum F (value_of c)) cs d h) [
  | inl l ↦ elim (has_either (leaves F) (c ∷ []) d l) [
    | inl m ↦ inl m
    | inr m ↦ inr (one m)
  ]
  | inr r ↦ inr (inr r)
]
  where
    one : Has (c ∷ []) d → Has (c ∷ cs) d
    one (inl e) = inl e
    one (inr n) = absurd n

-- what a sum of cells is made of is one of them
pub leaf_of_sum : (cs : List Cell) (d : Cell) → Has (leaves (sum_of_cells cs)) d → Has cs d
leaf_of_sum [] d h = absurd h
leaf_of_sum (c ∷ cs) d h = elim (sum_leaves (value_of c) cs d h) [ inl l ↦ one l | inr r ↦ inr r ]
  where
    one : Has (c ∷ []) d → Has (c ∷ cs) d
    one (inl e) = inl e
    one (inr n) = absurd n

-- the curve of a visit of a server
of_visit : (net : Net) (order : List ℕ) (s : ℕ) (c : Cell) (v : Visit) → Ordered net order → IsHome net s c
    → Has (visits net s) v
    → 0 < rank c.kind → rank c.kind < 13 → Before (at_visit In v) c (All net order)
of_visit net order s c v o h m k l =
    let found = visit_has net s v m in
    at_one net order s c (at_visit In v) o h (at_hop net In v.flow v.hop s refl found.0 found.1) k l

-- ---- cells at a server, by their kinds
-- each operand of c stands before it
abbrev OperandsFirst : Net → List ℕ → Cell → Type 0
OperandsFirst net order c = (d : Cell) → Has (leaves (formula net c)) d → Before d c (All net order)

-- one of these, each of which does
one_of : (net : Net) (order : List ℕ) (c x d : Cell) → Before x c (All net order) → x ≡ d → Before d c (All net order)
one_of net order c x d h e = subst (λ (y : Cell). Before y c (All net order)) e h

-- the server of a hop, and of the one after it
next_is : (net : Net) (i k : ℕ) → IsAccepted net → suc k < hops net i
    → IsNext net (server_of_hop net i k) (server_of_hop net i (suc k))
next_is net i k a h =
    let hop = hop_of net i (suc k) h in
    let place : get_or net.flows i (Some hop.flow) ≡ Some hop.flow =
    get_or_default net.flows i (Some hop.flow) None (flow_inside net i (suc k) h) ∙ hop.is in
    record {
      flow = hop.flow;
      live = (i, flow_inside net i (suc k) h, place);
      step = record {
        hop = k;
        on_path = hop.on_path;
        from = sym (ap (λ (o : Option NetFlow). slice_index (path_of o) k) hop.is);
        to = sym (ap (λ (o : Option NetFlow). slice_index (path_of o) (suc k)) hop.is);
      };
    }

earlier : (net : Net) (order : List ℕ) (i k : ℕ) → Ordered net order → Has order (server_of_hop net i (suc k))
    → suc k < hops net i
    → Before (server_of_hop net i k) (server_of_hop net i (suc k)) order
earlier net order i k o m h =
    let place = has_contains order (server_of_hop net i (suc k)) m in
    let is : get_or order place.0 0 ≡ server_of_hop net i (suc k) =
    get_or_default order place.0 0 (server_of_hop net i (suc k)) place.1 ∙ place.2 in
    before_place order place.0 (server_of_hop net i k) (server_of_hop net i (suc k)) place.1 is
    (contains_has (take place.0 order) (server_of_hop net i k)
    (goes_forward net order (server_of_hop net i k) (server_of_hop net i (suc k)) place.0 o.is
    (next_is net i k o.kept h) place.1 is))

in_first : (net : Net) (order : List ℕ) (i k : ℕ) → Ordered net order → k < hops net i
    → OperandsFirst net order (cell_of In i k)
in_first net order i zero o h d m = absurd m
in_first net order i (suc k) o h d (inl e) =
    let s = server_of_hop net i (suc k) in
    let home = at_hop net In i (suc k) s refl h refl in
    one_of net order (cell_of In i (suc k)) (cell_of Out i k) d
    (at_two net order (server_of_hop net i k) s (cell_of In i (suc k)) (cell_of Out i k)
    (earlier net order i k o (in_it net order s (cell_of In i (suc k)) o home) h) home
    (record { exists = lt-ltb (k + 1) (hops net i) (omega (arith, h)); at_home = refl; no_path = λ p. cc }))
    e
in_first net order i (suc k) o h d (inr m) = absurd m

cross_first : (net : Net) (order : List ℕ) (i k : ℕ) → Ordered net order → k < hops net i
    → OperandsFirst net order (cell_of Cross i k)
cross_first net order i k o h d m =
    let s = server_of_hop net i k in
    let q = queue_of_hop net i k in
    let found = map_has (at_visit In) (others net i s q) d (leaf_of_sum (map (at_visit In) (others net i s q)) d m) in
    let other = filter_has (λ (v : Visit). not (v.flow == i)) (visits_in net s q) found.0 found.1 in
    let here = filter_has (λ (v : Visit). queue_of_hop net v.flow v.hop == q) (visits net s) found.0 other.0 in
    one_of net order (cell_of Cross i k) (at_visit In found.0) d
    (of_visit net order s (cell_of Cross i k) found.0 o (at_hop net Cross i k s refl h refl) here.0 (omega arith)
    (omega arith))
    found.2

leaf_of_total : (net : Net) (s q : ℕ) (by_links : Bool) (d : Cell) → Has (leaves (total by_links net s q)) d
    → (v : Visit) × Has (visits_in net s q) v × (at_visit In v ≡ d)
leaf_of_total net s q false d m = map_has (at_visit In) (visits_in net s q) d (leaf_of_sum (map (at_visit In) (visits_in net s q)) d m)
leaf_of_total net s q true d m =
    let listed = subst (λ (cs : List Cell). Has cs d) (parts_leaves net s q (part_numbers net)) m in
    let found = map_has (at_visit In) (by_parts net s q (part_numbers net)) d listed in
    let part = flat_has (in_part net s q) (part_numbers net) found.0 found.1 in
    (found.0, (filter_has (λ (u : Visit). part_of net u == part.0) (visits_in net s q) found.0 part.2).0, found.2)

total_first : (net : Net) (order : List ℕ) (s q : ℕ) → Ordered net order → q < queues net s
    → OperandsFirst net order (cell_of Total s q)
total_first net order s q o h d m =
    let found = leaf_of_total net s q (net.version == 2) d m in
    let here = filter_has (λ (v : Visit). queue_of_hop net v.flow v.hop == q) (visits net s) found.0 found.1 in
    one_of net order (cell_of Total s q) (at_visit In found.0) d
    (of_visit net order s (cell_of Total s q) found.0 o (at_queue net Total s q refl h) here.0 (omega arith)
    (omega arith))
    found.2

higher_home : (net : Net) (s q : ℕ) → q < levels net s → IsHome net s (cell_of Higher s q)
higher_home net s q h = record { exists = lt-ltb q (levels net s) h; at_home = refl; no_path = λ p. cc }

higher_first : (net : Net) (order : List ℕ) (s q : ℕ) → Ordered net order → q < levels net s
    → OperandsFirst net order (cell_of Higher s q)
higher_first net order s q o h d m =
    let cells = map (cell_of Total s) (range_with_len 0 q) in
    let found = map_has (cell_of Total s) (range_with_len 0 q) d (leaf_of_sum cells d m) in
    let low = range_has 0 q found.0 found.1 in
    let most = levels_at_most (discipline net s) in
    one_of net order (cell_of Higher s q) (cell_of Total s found.0) d
    (at_one net order s (cell_of Higher s q) (cell_of Total s found.0) o (higher_home net s q h)
    (at_queue net Total s found.0 refl (omega (arith, low.1, h, most))) (omega arith) (omega arith))
    found.2

service_first : (net : Net) (order : List ℕ) (s q : ℕ) → Ordered net order → q < queues net s
    → OperandsFirst net order (cell_of QueueService s q)
service_first net order s q o h d m = by (discipline net s) refl m
  where
    by : (c : Discipline) → discipline net s ≡ c → Has (leaves (queue_service net s q c)) d
        → Before d (cell_of QueueService s q) (All net order)
    by Fifo e n = absurd n
    by (Priority n) e (inl same) =
        let all : queues net s ≡ n = ap queue_count e in
        let high : levels net s ≡ n = ap levels_of e in
        one_of net order (cell_of QueueService s q) (cell_of Higher s q) d
        (at_one net order s (cell_of QueueService s q) (cell_of Higher s q) o (at_queue net QueueService s q refl h)
        (higher_home net s q (omega (arith, h, all, high))) (omega arith) (omega arith))
        same
    by (Priority n) e (inr l) = absurd l
    by (Drr quanta) e n = absurd n

-- a cell of the same hop, or the service or the delay of its queue
of_hop : (net : Net) (order : List ℕ) (i k : ℕ) (c : Cell) (kind : Kind) → Ordered net order → k < hops net i
    → IsHome net (server_of_hop net i k) c → scope_of kind ≡ EachHop → rank kind < rank c.kind → rank c.kind < 13
    → Before (cell_of kind i k) c (All net order)
of_hop net order i k c kind o h p e l u =
    at_one net order (server_of_hop net i k) c (cell_of kind i k) o p
    (at_hop net kind i k (server_of_hop net i k) e h refl) l u

of_queue : (net : Net) (order : List ℕ) (i k : ℕ) (c : Cell) (kind : Kind) → Ordered net order → k < hops net i
    → IsHome net (server_of_hop net i k) c → scope_of kind ≡ EachQueue → rank kind < rank c.kind → rank c.kind < 13
    → Before (cell_of kind (server_of_hop net i k) (queue_of_hop net i k)) c (All net order)
of_queue net order i k c kind o h p e l u =
    at_one net order (server_of_hop net i k) c (cell_of kind (server_of_hop net i k) (queue_of_hop net i k)) o p
    (at_queue net kind (server_of_hop net i k) (queue_of_hop net i k) e (queue_exists net i k o.kept h)) l u

-- and one of the same hop, where it is not the last
at_hop_before : (net : Net) (kind : Kind) (i k s : ℕ) → scope_of kind ≡ EachHopButLast → suc k < hops net i
    → server_of_hop net i k ≡ s → IsHome net s (cell_of kind i k)
at_hop_before net kind i k s e h is = record {
  exists = subst (λ (c : Scope). is_in_scope net c i k ≡ true) (sym e) (lt-ltb (k + 1) (hops net i) (omega (arith, h)));
  at_home = subst (λ (c : Scope). home_in net c i k ≡ s) (sym e) is;
  no_path = λ p. let bad : EachHopButLast ≡ EachPath = sym e ∙ p in cc;
}

of_last : (net : Net) (order : List ℕ) (i k : ℕ) (c : Cell) (kind : Kind) → Ordered net order → suc k < hops net i
    → IsHome net (server_of_hop net i k) c → scope_of kind ≡ EachHopButLast → rank kind < rank c.kind → rank c.kind < 13
    → Before (cell_of kind i k) c (All net order)
of_last net order i k c kind o h p e l u =
    at_one net order (server_of_hop net i k) c (cell_of kind i k) o p
    (at_hop_before net kind i k (server_of_hop net i k) e h refl) l u

-- two operands, or three
of_two : (net : Net) (order : List ℕ) (c x y : Cell) → leaves (formula net c) ≡ x ∷ y ∷ [] → Before x c (All net order)
    → Before y c (All net order) → OperandsFirst net order c
of_two net order c x y are first second d m = here (subst (λ zs. Has zs d) are m)
  where
    here : Has (x ∷ y ∷ []) d → Before d c (All net order)
    here (inl e) = one_of net order c x d first e
    here (inr (inl e)) = one_of net order c y d second e
    here (inr (inr n)) = absurd n

of_three : (net : Net) (order : List ℕ) (c x y z : Cell) → leaves (formula net c) ≡ x ∷ y ∷ z ∷ []
    → Before x c (All net order) → Before y c (All net order) → Before z c (All net order) → OperandsFirst net order c
of_three net order c x y z are first second third d m = here (subst (λ zs. Has zs d) are m)
  where
    here : Has (x ∷ y ∷ z ∷ []) d → Before d c (All net order)
    here (inl e) = one_of net order c x d first e
    here (inr (inl e)) = one_of net order c y d second e
    here (inr (inr (inl e))) = one_of net order c z d third e
    here (inr (inr (inr n))) = absurd n

theta_first : (net : Net) (order : List ℕ) (i k : ℕ) → Ordered net order → k < hops net i
    → OperandsFirst net order (cell_of Theta i k)
theta_first net order i k o h =
    let home = at_hop net Theta i k (server_of_hop net i k) refl h refl in
    of_two net order (cell_of Theta i k) (cell_of Cross i k)
    (cell_of QueueService (server_of_hop net i k) (queue_of_hop net i k)) refl
    (of_hop net order i k (cell_of Theta i k) Cross o h home refl (omega arith) (omega arith))
    (of_queue net order i k (cell_of Theta i k) QueueService o h home refl (omega arith) (omega arith))

residual_first : (net : Net) (order : List ℕ) (i k : ℕ) → Ordered net order → k < hops net i
    → OperandsFirst net order (cell_of Residual i k)
residual_first net order i k o h =
    let home = at_hop net Residual i k (server_of_hop net i k) refl h refl in
    of_three net order (cell_of Residual i k) (cell_of QueueService (server_of_hop net i k) (queue_of_hop net i k))
    (cell_of Cross i k) (cell_of Theta i k) refl
    (of_queue net order i k (cell_of Residual i k) QueueService o h home refl (omega arith) (omega arith))
    (of_hop net order i k (cell_of Residual i k) Cross o h home refl (omega arith) (omega arith))
    (of_hop net order i k (cell_of Residual i k) Theta o h home refl (omega arith) (omega arith))

hop_delay_first : (net : Net) (order : List ℕ) (i k : ℕ) → Ordered net order → k < hops net i
    → OperandsFirst net order (cell_of HopDelay i k)
hop_delay_first net order i k o h =
    let home = at_hop net HopDelay i k (server_of_hop net i k) refl h refl in
    of_three net order (cell_of HopDelay i k) (cell_of QueueDelay (server_of_hop net i k) (queue_of_hop net i k))
    (cell_of In i k) (cell_of Residual i k) refl
    (of_queue net order i k (cell_of HopDelay i k) QueueDelay o h home refl (omega arith) (omega arith))
    (of_hop net order i k (cell_of HopDelay i k) In o h home refl (omega arith) (omega arith))
    (of_hop net order i k (cell_of HopDelay i k) Residual o h home refl (omega arith) (omega arith))

-- what enters a hop that is not the last, and one cell more of it
past_first : (net : Net) (order : List ℕ) (i k : ℕ) (last kind : Kind) → Ordered net order → k < hops net i
    → suc k < hops net i → scope_of last ≡ EachHopButLast → scope_of kind ≡ EachHop → rank In < rank last
    → rank kind < rank last → rank last < 13
    → leaves (formula net (cell_of last i k)) ≡ cell_of In i k ∷ cell_of kind i k ∷ []
    → OperandsFirst net order (cell_of last i k)
past_first net order i k last kind o h g a e below l u are =
    let home = at_hop_before net last i k (server_of_hop net i k) a g refl in
    of_two net order (cell_of last i k) (cell_of In i k) (cell_of kind i k) are
    (of_hop net order i k (cell_of last i k) In o h home refl below u)
    (of_hop net order i k (cell_of last i k) kind o h home e l u)

shift_out_first : (net : Net) (order : List ℕ) (i k : ℕ) → Ordered net order → k < hops net i → suc k < hops net i
    → OperandsFirst net order (cell_of ShiftOut i k)
shift_out_first net order i k o h g =
    past_first net order i k ShiftOut HopDelay o h g refl refl (omega arith) (omega arith) (omega arith) refl

deconv_out_first : (net : Net) (order : List ℕ) (i k : ℕ) → Ordered net order → k < hops net i → suc k < hops net i
    → OperandsFirst net order (cell_of DeconvOut i k)
deconv_out_first net order i k o h g =
    past_first net order i k DeconvOut Residual o h g refl refl (omega arith) (omega arith) (omega arith) refl

out_first : (net : Net) (order : List ℕ) (i k : ℕ) → Ordered net order → k < hops net i → suc k < hops net i
    → OperandsFirst net order (cell_of Out i k)
out_first net order i k o h g =
    let home = at_hop_before net Out i k (server_of_hop net i k) refl g refl in
    of_two net order (cell_of Out i k) (cell_of ShiftOut i k) (cell_of DeconvOut i k) refl
    (of_last net order i k (cell_of Out i k) ShiftOut o g home refl (omega arith) (omega arith))
    (of_last net order i k (cell_of Out i k) DeconvOut o g home refl (omega arith) (omega arith))

-- what enters a queue, and its service
of_its_queue : (net : Net) (order : List ℕ) (s q : ℕ) (last : Kind) → Ordered net order → q < queues net s
    → scope_of last ≡ EachQueue → rank Total < rank last → rank QueueService < rank last → rank last < 13
    → leaves (formula net (cell_of last s q)) ≡ cell_of Total s q ∷ cell_of QueueService s q ∷ []
    → OperandsFirst net order (cell_of last s q)
of_its_queue net order s q last o h a first second u are =
    let home = at_queue net last s q a h in
    of_two net order (cell_of last s q) (cell_of Total s q) (cell_of QueueService s q) are
    (at_one net order s (cell_of last s q) (cell_of Total s q) o home (at_queue net Total s q refl h) first u)
    (at_one net order s (cell_of last s q) (cell_of QueueService s q) o home (at_queue net QueueService s q refl h) second u)

queue_delay_first : (net : Net) (order : List ℕ) (s q : ℕ) → Ordered net order → q < queues net s
    → OperandsFirst net order (cell_of QueueDelay s q)
queue_delay_first net order s q o h =
    of_its_queue net order s q QueueDelay o h refl (omega arith) (omega arith) (omega arith) refl

queue_backlog_first : (net : Net) (order : List ℕ) (s q : ℕ) → Ordered net order → q < queues net s
    → OperandsFirst net order (cell_of QueueBacklog s q)
queue_backlog_first net order s q o h =
    of_its_queue net order s q QueueBacklog o h refl (omega arith) (omega arith) (omega arith) refl

-- ---- cells of whole paths
-- a live flow has a hop
pub some_hop : (net : Net) (i : ℕ) → IsAccepted net → is_live net i ≡ true → 0 < hops net i
some_hop net i a h = by (flow_at net i) refl
  where
    by : (f : Option NetFlow) → flow_at net i ≡ f → 0 < hops net i
    by None e = absurd (let bad : true ≡ false = sym h ∙ ap (λ (o : Option NetFlow). is_some o) e in cc)
    by (Some f) e =
        let inside = live_inside net i h in
        let place : get_or net.flows i (Some f) ≡ Some f = get_or_default net.flows i (Some f) None inside ∙ e in
        let some = (a.flows f (i, inside, place)).some in
        let same : hops net i ≡ length f.path = ap (λ (o : Option NetFlow). length (path_of o)) e in
        omega (arith, some, same)

-- operands of a hop of the path
of_path : (net : Net) (order : List ℕ) (i k : ℕ) (kind last : Kind) (d : Cell) → Ordered net order → k < hops net i
    → scope_of kind ≡ EachHop → Has (flat_map (path_cells net) path_kinds) (cell_of last i 0) → cell_of kind i k ≡ d
    → Before d (cell_of last i 0) (All net order)
of_path net order i k kind last d o h e p same =
    one_of net order (cell_of last i 0) (cell_of kind i k) d
    (at_last net order (server_of_hop net i k) (cell_of last i 0) (cell_of kind i k) o
    (at_hop net kind i k (server_of_hop net i k) e h refl) p)
    same

path_service_first : (net : Net) (order : List ℕ) (i : ℕ) → Ordered net order → is_live net i ≡ true
    → OperandsFirst net order (cell_of PathService i 0)
path_service_first net order i o h d m =
    let count = hops net i - 1 + 1 in
    let found = map_has (cell_of Residual i) (range_with_len 0 count) d
    (subst (λ (cs : List Cell). Has cs d) (served_leaves net i (hops net i - 1)) m) in
    let low = range_has 0 count found.0 found.1 in
    let some = some_hop net i o.kept h in
    of_path net order i found.0 Residual PathService d o (omega (arith, low.1, some)) refl
    (has_flat (path_cells net) path_kinds PathService (cell_of PathService i 0) (inl refl)
    (has_path net PathService i h))
    found.2

tfa_first : (net : Net) (order : List ℕ) (i : ℕ) → Ordered net order → is_live net i ≡ true
    → OperandsFirst net order (cell_of Tfa i 0)
tfa_first net order i o h d m =
    let found = map_has (cell_of HopDelay i) (range_with_len 0 (hops net i)) d m in
    let low = range_has 0 (hops net i) found.0 found.1 in
    of_path net order i found.0 HopDelay Tfa d o (omega (arith, low.1)) refl
    (has_flat (path_cells net) path_kinds Tfa (cell_of Tfa i 0) (inr (inl refl)) (has_path net Tfa i h))
    found.2

sfa_first : (net : Net) (order : List ℕ) (i : ℕ) → Ordered net order → is_live net i ≡ true
    → OperandsFirst net order (cell_of Sfa i 0)
sfa_first net order i o h d (inl e) =
    of_path net order i 0 In Sfa d o (some_hop net i o.kept h) refl
    (has_flat (path_cells net) path_kinds Sfa (cell_of Sfa i 0) (inr (inr (inl refl))) (has_path net Sfa i h)) e
sfa_first net order i o h d (inr (inl e)) =
    one_of net order (cell_of Sfa i 0) (cell_of PathService i 0) d
    (on_path net order i PathService Sfa h (omega arith) (omega arith) (omega arith)) e
sfa_first net order i o h d (inr (inr n)) = absurd n

bound_first : (net : Net) (order : List ℕ) (i : ℕ) → Ordered net order → is_live net i ≡ true
    → OperandsFirst net order (cell_of Bound i 0)
bound_first net order i o h d (inl e) =
    one_of net order (cell_of Bound i 0) (cell_of Tfa i 0) d
    (on_path net order i Tfa Bound h (omega arith) (omega arith) (omega arith)) e
bound_first net order i o h d (inr (inl e)) =
    one_of net order (cell_of Bound i 0) (cell_of Sfa i 0) d
    (on_path net order i Sfa Bound h (omega arith) (omega arith) (omega arith)) e
bound_first net order i o h d (inr (inr n)) = absurd n

-- ---- all kinds
-- by what there is
hop_is : (net : Net) (i k : ℕ) → nat_lt k (hops net i) ≡ true → k < hops net i
hop_is net i k h = ltb-true k (hops net i) h

early_is : (net : Net) (i k : ℕ) → nat_lt (k + 1) (hops net i) ≡ true → (k < hops net i) × (suc k < hops net i)
early_is net i k h = let l = ltb-true (k + 1) (hops net i) h in (omega (arith, l), omega (arith, l))

-- at a whole path the second number is 0
whole_first : (net : Net) (order : List ℕ) (kind : Kind) (i b : ℕ) → (is_live net i && (b == 0)) ≡ true
    → (is_live net i ≡ true → OperandsFirst net order (cell_of kind i 0)) → OperandsFirst net order (cell_of kind i b)
whole_first net order kind i b h first =
    let parts = and_parts (is_live net i) (b == 0) h in
    subst (λ (n : ℕ). OperandsFirst net order (cell_of kind i n)) (sym (eqb-true b 0 parts.1)) (first parts.0)

cells_first : (net : Net) (order : List ℕ) (kind : Kind) (a b : ℕ) → Ordered net order
    → has_cell net (cell_of kind a b) ≡ true
    → OperandsFirst net order (cell_of kind a b)
cells_first net order In a b o h = in_first net order a b o (hop_is net a b h)
cells_first net order Cross a b o h = cross_first net order a b o (hop_is net a b h)
cells_first net order Total a b o h = total_first net order a b o (ltb-true b (queues net a) h)
cells_first net order Higher a b o h = higher_first net order a b o (ltb-true b (levels net a) h)
cells_first net order QueueService a b o h = service_first net order a b o (ltb-true b (queues net a) h)
cells_first net order Theta a b o h = theta_first net order a b o (hop_is net a b h)
cells_first net order Residual a b o h = residual_first net order a b o (hop_is net a b h)
cells_first net order QueueDelay a b o h = queue_delay_first net order a b o (ltb-true b (queues net a) h)
cells_first net order QueueBacklog a b o h = queue_backlog_first net order a b o (ltb-true b (queues net a) h)
cells_first net order HopDelay a b o h = hop_delay_first net order a b o (hop_is net a b h)
cells_first net order ShiftOut a b o h = let e = early_is net a b h in shift_out_first net order a b o e.0 e.1
cells_first net order DeconvOut a b o h = let e = early_is net a b h in deconv_out_first net order a b o e.0 e.1
cells_first net order Out a b o h = let e = early_is net a b h in out_first net order a b o e.0 e.1
cells_first net order PathService a b o h = whole_first net order PathService a b h (path_service_first net order a o)
cells_first net order Tfa a b o h = whole_first net order Tfa a b h (tfa_first net order a o)
cells_first net order Sfa a b o h = whole_first net order Sfa a b h (sfa_first net order a o)
cells_first net order Bound a b o h = whole_first net order Bound a b h (bound_first net order a o)

-- ---- in the order
pub leaf_before : (net : Net) (order : List ℕ) (c d : Cell) → IsAccepted net → IsOrder net order → has_cell net c ≡ true
    → Has (leaves (formula net c)) d → Before d c (evaluation_order net order)
unfolding evaluation_order
leaf_before net order c d a o h m = cells_first net order c.kind c.a c.b (record { kept = a; is = o }) h d m

-- a cell that stands in it with others before it
pub in_front : (net : Net) (order : List ℕ) (front : List Cell) (c : Cell) (back : List Cell)
    → evaluation_order net order ≡ front ++ c ∷ back → has_cell net c ≡ true
in_front net order front c back e =
    order_has net order c (subst (λ (cs : List Cell). Has cs c) (sym e) (has_right front (c ∷ back) c (inl refl)))

pub leaf_in_front : (net : Net) (order : List ℕ) (front : List Cell) (c : Cell) (back : List Cell) (d : Cell)
    → IsAccepted net
    → IsOrder net order → evaluation_order net order ≡ front ++ c ∷ back → Has (leaves (formula net c)) d → Has front d
leaf_in_front net order front c back d a o e m =
    before_split front d c back (subst (λ (cs : List Cell). Apart cs) e (apart_cells net order o))
    (subst (λ (cs : List Cell). Before d c cs) e (leaf_before net order c d a o (in_front net order front c back e) m))

pub operands_come_first : OperandsComeFirst
operands_come_first net order a o front back c d e m =
    has_contains front d (leaf_in_front net order front c back d a o e (contains_has (leaves (formula net c)) d m))

before_first : (x y : Cell) (xs : List Cell) → Before x y xs → Has xs x
before_first x y [] h = absurd h
before_first x y (z ∷ zs) (inl h) = inl h.0
before_first x y (z ∷ zs) (inr h) = inr (before_first x y zs h)

pub operands_are_cells : OperandsAreCells
operands_are_cells net order a o c d h m =
    order_has net order d (before_first d c (evaluation_order net order)
    (leaf_before net order c d a o h (contains_has (leaves (formula net c)) d m)))
