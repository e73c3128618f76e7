-- The curves with which queues, the queues before one, and the others of a flow come to a server.
use Rattle.std.specs.Prelude.{◌≡◌, ℕ, ◌<◌, ◌==◌, Bool, true, false, not, ◌&&◌}
use Rattle.std.specs.List.{range_with_len}
use Rattle.std.proofs.Common.{arith, sym, ◌∙◌, refl, subst}
use Rattle.std.proofs.lemmas.Bool.{eqb-true, ltb-true, and_parts}
use Rattle.run_laws.specs.Runs.{SpecRun}
use Rattle.run_laws.specs.Cards.{Card, Class, of_queue, before_queue}
use Rattle.run_laws.specs.Premises.{KeepsArrivals}
use Rattle.run_laws.proofs.Arrivals.{arrivals_map}
use Rattle.net_model.specs.Networks.{Net}
use Rattle.net_cells.specs.declared.cell.Kind.TheVariants.{Cross, Total, Higher}
use Rattle.net_cells.specs.Numbered.{hops, server_of_hop, queue_of_hop, queues, levels}
use Rattle.net_cells.specs.declared.visit.Visit.{Visit}
use Rattle.net_cells.specs.Visits.{visits_in, others}
use Rattle.net_cells.specs.Cells.{cell_of}
use Rattle.net_cells.specs.Meanings.{CellTable}
use Rattle.net_cells.specs.Equations.{MeetsEquations}
use Rattle.net_cells.proofs.Lists.{has_filter, filter_has, has_range, range_has}
use Rattle.net_bounds.specs.TableValues.{HasFunction}
use Rattle.net_bounds.specs.Promises.{seen_by}
use Rattle.net_bounds.proofs.ListSums.{sum_over, HasKey, list_keeps}
use Rattle.net_bounds.proofs.Cells.{values, HasValues, curve_holds}
use Rattle.net_bounds.proofs.QueueCells.{arriving_at, total_at, cross_is, higher_is}
use Rattle.net_bounds.proofs.PartCells.{total_over, total_is}
use Rattle.net_bounds.proofs.PartComes.{parts_keep}
use Rattle.net_bounds.proofs.Arriving.{AtServer, keeps_values, flow_comes, IsVisiting, all_visiting, card_visit, has_in, IsVisitIn, visit_in, has_key}
use Rattle.run_laws.proofs.Members.{Has}

-- ---- a queue
pub total_cell : (net : Net) (at : CellTable) (s q : ℕ) → MeetsEquations net at → q < queues net s
    → HasFunction at (cell_of Total s q) (HasValues (total_over (net.version == 2) net at s q))
total_cell net at s q meets h = total_is net at s q meets h (λ v m. (visit_in net s q v m).within)

-- each packet of the queue is of a flow with a hop there
queue_keeps : (net : Net) (at : CellTable) (run : SpecRun) (s q : ℕ) (by_links : Bool) → AtServer net at run s → (net.version == 2) ≡ by_links
    → KeepsArrivals (of_queue q) (total_over by_links net at s q) (seen_by net run s)
queue_keeps net at run s q true w e = parts_keep net at run s q w (eqb-true net.version 2 e)
queue_keeps net at run s q false w e =
    let V = seen_by net run s in
    let vs = visits_in net s q in
    let known = arrivals_map (IsVisiting net s) (λ c. of_queue q c ≡ true → HasKey (λ (v : Visit). v.flow) vs c.flow)
    (λ c v e. has_flow c v (eqb-true c.queue q e)) V (all_visiting net at run s w) in
    list_keeps (λ (v : Visit). v.flow) (arriving_at at) (λ c. c.flow) vs (of_queue q) V known
    (λ v m. let is = visit_in net s q v m in flow_comes net at run s v.flow v.hop w is.within is.server)
  where
    has_flow : (c : Card) → IsVisiting net s c → c.queue ≡ q → HasKey (λ (v : Visit). v.flow) (visits_in net s q) c.flow
    has_flow c v e = has_key (λ (u : Visit). u.flow) (visits_in net s q) (card_visit net s c) c.flow
        (has_in net s q c v e) refl

pub queue_comes : (net : Net) (at : CellTable) (run : SpecRun) (s q : ℕ) → AtServer net at run s → q < queues net s
    → KeepsArrivals (of_queue q) (values at (cell_of Total s q)) (seen_by net run s)
queue_comes net at run s q w h =
    keeps_values (of_queue q) (values at (cell_of Total s q)) (total_over (net.version == 2) net at s q) (seen_by net run s)
    (curve_holds at (cell_of Total s q) (HasValues (total_over (net.version == 2) net at s q)) (total_cell net at s q w.meets h))
    (queue_keeps net at run s q (net.version == 2) w refl)

-- the queues before it, at a server that serves them first
pub higher_comes : (net : Net) (at : CellTable) (run : SpecRun) (s q : ℕ) → AtServer net at run s → q < levels net s
    → levels net s ≡ queues net s → KeepsArrivals (before_queue q) (values at (cell_of Higher s q)) (seen_by net run s)
higher_comes net at run s q w h e =
    let V = seen_by net run s in
    let qs = range_with_len 0 q in
    let sum = sum_over (total_at at s) qs in
    let known = arrivals_map (IsVisiting net s) (λ c. before_queue q c ≡ true → HasKey (λ (p : ℕ). p) qs c.queue)
    (λ c v b. has_queue c (ltb-true c.queue q b)) V (all_visiting net at run s w) in
    keeps_values (before_queue q) (values at (cell_of Higher s q)) sum V
    (curve_holds at (cell_of Higher s q) (HasValues sum)
    (higher_is net at s q w.meets h
    (λ p m. let c = total_cell net at s p w.meets (below p m) in record { value = c.value; is = c.is; holds = tt })))
    (list_keeps (λ (p : ℕ). p) (total_at at s) (λ c. c.queue) qs (before_queue q) V known
    (λ p m. queue_comes net at run s p w (below p m)))
  where
    has_queue : (c : Card) → c.queue < q → HasKey (λ (p : ℕ). p) (range_with_len 0 q) c.queue
    has_queue c l = has_key (λ (p : ℕ). p) (range_with_len 0 q) c.queue c.queue
        (has_range 0 q c.queue (omega arith) (omega (arith, l))) refl

    below : (p : ℕ) → Has (range_with_len 0 q) p → p < queues net s
    below p m = let r = range_has 0 q p m in omega (arith, r.1)

-- ---- the others of a flow in its queue
abbrev pub others_of : ℕ → ℕ → Class
others_of q i c = (c.queue == q) && not (c.flow == i)

pub cross_comes : (net : Net) (at : CellTable) (run : SpecRun) (s i k : ℕ) → AtServer net at run s → k < hops net i
    → server_of_hop net i k ≡ s
    → KeepsArrivals (others_of (queue_of_hop net i k) i) (values at (cell_of Cross i k)) (seen_by net run s)
cross_comes net at run s i k w h e =
    let V = seen_by net run s in
    let q = queue_of_hop net i k in
    let vs = others net i (server_of_hop net i k) q in
    let sum = sum_over (arriving_at at) vs in
    let known = arrivals_map (IsVisiting net s) (λ c. others_of q i c ≡ true → HasKey (λ (v : Visit). v.flow) vs c.flow)
    (λ c v b. has_other c v (and_parts (c.queue == q) (not (c.flow == i)) b)) V (all_visiting net at run s w) in
    keeps_values (others_of q i) (values at (cell_of Cross i k)) sum V
    (curve_holds at (cell_of Cross i k) (HasValues sum) (cross_is net at i k w.meets h (λ v m. (other_in v m).within)))
    (list_keeps (λ (v : Visit). v.flow) (arriving_at at) (λ c. c.flow) vs (others_of q i) V known
    (λ v m. let is = other_in v m in flow_comes net at run s v.flow v.hop w is.within (is.server ∙ e)))
  where
    other_in : (v : Visit) → Has (others net i (server_of_hop net i k) (queue_of_hop net i k)) v
        → IsVisitIn net (server_of_hop net i k) (queue_of_hop net i k) v
    other_in v m =
        visit_in net (server_of_hop net i k) (queue_of_hop net i k) v
        (filter_has (λ u. not (u.flow == i)) (visits_in net (server_of_hop net i k) (queue_of_hop net i k)) v m).0

    has_other : (c : Card) → IsVisiting net s c → ((c.queue == queue_of_hop net i k) ≡ true) × (not (c.flow == i) ≡ true)
        → HasKey (λ (v : Visit). v.flow) (others net i (server_of_hop net i k) (queue_of_hop net i k)) c.flow
    has_other c v both =
        let there = subst (λ (r : ℕ). Has (visits_in net r (queue_of_hop net i k)) (card_visit net s c)) (sym e)
        (has_in net s (queue_of_hop net i k) c v (eqb-true c.queue (queue_of_hop net i k) both.0)) in
        has_key (λ (u : Visit). u.flow) (others net i (server_of_hop net i k) (queue_of_hop net i k)) (card_visit net s c)
        c.flow
        (has_filter (λ u. not (u.flow == i)) (visits_in net (server_of_hop net i k) (queue_of_hop net i k))
        (card_visit net s c) there both.1) refl
